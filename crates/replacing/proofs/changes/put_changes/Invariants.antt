use Rattle.replacing.specs.Changes.{changes_in}
use Rattle.nursery.specs.Removal.{change_numbers}
use Rattle.text.specs.Pages.{page, write}
use Prim.Native.Nat.{◌-◌}
use mathlib.Core.Path.{◌≡◌}
use Rattle.replacing.proofs.changes.put_changes.Given as goal

abbrev pub invariant-loop-v : goal.invariant-loop-v
invariant-loop-v l = write (change_numbers (changes_in l.olds l.news (l.n - l.v) l.v)) (page l.out l.next) ≡ write (change_numbers (changes_in l.olds l.news l.n 0)) (page l.initial.out 0)
