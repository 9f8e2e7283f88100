use mathlib.Core.Path.{◌≡◌}
use Prim.Native.Nat.{◌-◌}
use Rattle.tables.specs.Walks.{lockstep_in, steps_ahead}
use Rattle.tables.proofs.walks.walk_lockstep.Given as goal

-- the walks from here on, with the steps so far in front, are the whole walks
abbrev pub invariant-loop-steps : goal.invariant-loop-steps
invariant-loop-steps l =
    steps_ahead l.steps (lockstep_in l.degrees l.sides l.ends (l.fuel - l.steps) l.v.edge.0 l.v.at.0 l.w.edge.0 l.w.at.0)
    ≡ lockstep_in l.degrees l.sides l.ends l.fuel l.initial.v.edge.0 l.initial.v.at.0 l.initial.w.edge.0 l.initial.w.at.0
