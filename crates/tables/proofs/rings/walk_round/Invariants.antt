use mathlib.Core.Path.{◌≡◌}
use Prim.Native.Nat.{◌-◌}
use Rattle.tables.specs.Rounds.{round_in}
use Rattle.tables.proofs.rings.walk_round.Given as goal

-- the walks from here on come back as the whole walks do
abbrev pub invariant-loop-steps : goal.invariant-loop-steps
invariant-loop-steps l =
    round_in l.degrees l.sides l.ends l.v.0 l.w.0 (l.fuel - l.steps) l.steps l.met l.x.edge.0 l.x.at.0 l.y.edge.0 l.y.at.0
    ≡ round_in l.degrees l.sides l.ends l.v.0 l.w.0 l.fuel 0 l.initial.met l.initial.x.edge.0 l.initial.x.at.0 l.initial.y.edge.0 l.initial.y.at.0
