use Rattle.counting.specs.Counting.{estimated}
use mathlib.Core.Bool.{false}
use mathlib.Core.Path.{ap}
use Prim.Native.Nat.{ℕ}
use Rattle.quoting.proofs.plans.count_planned.Goals as goal

pub returns-in-Merge : goal.returns-in-Merge
returns-in-Merge c = rw c.in-Merge.is c.count_merged.ensures

pub returns-in-Open : goal.returns-in-Open
returns-in-Open c = rw c.in-Open.is (ap (λ (k : ℕ). estimated false k) c.count_split-count.ensures)
