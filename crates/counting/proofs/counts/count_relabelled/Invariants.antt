use mathlib.Core.Path.{◌≡◌}
use Prim.Native.Nat.{◌+◌, ◌-◌, ◌≤◌}
use Rattle.counting.specs.Counting.{count_in}
use Rattle.counting.proofs.counts.count_relabelled.Given as goal

-- what is left to count, with the count so far, is the whole
abbrev pub invariant-loop : goal.invariant-loop
invariant-loop l =
    (l.count ≤ l.counter)
    × (l.count + count_in l.degrees l.sides l.ends l.labels l.up (l.fuel - l.counter) l.w.edge.0 l.w.at.0 l.next.0
    ≡ count_in l.degrees l.sides l.ends l.labels l.up l.fuel l.initial.w.edge.0 l.initial.w.at.0 l.initial.next.0)
