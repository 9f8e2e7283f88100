use mathlib.Core.Path.{◌≡◌}
use Prim.Native.Nat.{◌-◌}
use Rattle.chains.specs.Chains.{mark_in}
use Rattle.chains.proofs.marks.mark_onwards.Given as goal

-- what is left of the walk marks what the whole walk does
abbrev pub invariant-loop : goal.invariant-loop
invariant-loop l =
    mark_in l.degrees l.sides l.ends l.home.0 (l.fuel - l.counter) l.marks l.w.edge.0 l.w.at.0
    ≡ mark_in l.degrees l.sides l.ends l.home.0 l.fuel l.initial.marks l.initial.w.edge.0 l.initial.w.at.0
