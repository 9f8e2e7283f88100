use mathlib.Core.Path.{◌≡◌}
use Prim.Native.Nat.{◌-◌, ◌≤◌}
use Rattle.chains.specs.Chains.{mark_in, walk_in, walk_ahead, walk_volume_in}
use Rattle.chains.proofs.marks.walk_marking.Given as goal

-- what is left of the walk, with what is known so far, is the whole walk
abbrev pub invariant-loop : goal.invariant-loop
invariant-loop l =
    (l.inner ≤ l.counter) × (l.length.0 ≤ 4294967295) × (l.lowest.0 ≤ l.home.0)
    × (walk_ahead l.inner l.length.0 l.lowest.0 (walk_in l.degrees l.sides l.ends l.lengths l.home.0 (l.fuel - l.counter) l.w.edge.0 l.w.at.0)
    ≡ walk_in l.degrees l.sides l.ends l.lengths l.home.0 l.fuel l.initial.w.edge.0 l.initial.w.at.0)
    × (walk_volume_in l.degrees l.sides l.ends l.volumes l.home.0 (l.fuel - l.counter) l.volume.0 l.w.edge.0 l.w.at.0
    ≡ walk_volume_in l.degrees l.sides l.ends l.volumes l.home.0 l.fuel l.initial.volume.0 l.initial.w.edge.0 l.initial.w.at.0)
    × (mark_in l.degrees l.sides l.ends l.home.0 (l.fuel - l.counter) l.marks l.w.edge.0 l.w.at.0
    ≡ mark_in l.degrees l.sides l.ends l.home.0 l.fuel l.initial.marks l.initial.w.edge.0 l.initial.w.at.0)
