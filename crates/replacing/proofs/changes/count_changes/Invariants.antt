use Rattle.replacing.specs.Changes.{changes_in}
use lib.ListN.{length}
use Prim.Native.Nat.{◌+◌, ◌-◌, ◌≤◌}
use mathlib.Core.Path.{◌≡◌}
use Rattle.replacing.proofs.changes.count_changes.Given as goal

abbrev pub invariant-loop-v : goal.invariant-loop-v
invariant-loop-v l = (l.count ≤ l.v) × (l.count + length (changes_in l.olds l.news (l.n - l.v) l.v) ≡ length (changes_in l.olds l.news l.n 0))
