use mathlib.Core.Path.{◌≡◌}
use Prim.Native.Nat.{◌-◌, ◌≤◌}
use Rattle.labels.specs.Labelling.{relabel_in, count_ahead}
use Rattle.labels.proofs.labelling.relabel_chain.Given as goal

-- what is left to relabel, with the count so far in front, is the whole
abbrev pub invariant-loop : goal.invariant-loop
invariant-loop l =
    (l.count ≤ l.counter)
    × (count_ahead l.count (relabel_in l.degrees l.ends l.up (l.fuel - l.counter) l.sides l.labels l.w.edge.0 l.w.at.0 l.next.0)
    ≡ relabel_in l.degrees l.ends l.up l.fuel l.initial.sides l.initial.labels l.initial.w.edge.0 l.initial.w.at.0 l.initial.next.0)
