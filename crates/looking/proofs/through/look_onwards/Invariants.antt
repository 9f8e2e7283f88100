use mathlib.Core.Path.{◌≡◌}
use Prim.Native.Nat.{◌-◌}
use Rattle.looking.specs.Answers.{as_seen}
use Rattle.looking.specs.Looking.{look_in}
use Rattle.looking.proofs.through.look_onwards.Given as goal

-- what is left of the walk ends as the whole walk does
abbrev pub invariant-loop : goal.invariant-loop
invariant-loop l =
    look_in l.degrees l.sides l.ends l.lengths l.labels l.label.0 l.home.0 (l.fuel - l.counter) (as_seen l.so_far) l.w.edge.0 l.w.at.0
    ≡ look_in l.degrees l.sides l.ends l.lengths l.labels l.label.0 l.home.0 l.fuel (as_seen l.initial.so_far) l.initial.w.edge.0 l.initial.w.at.0
