-- Document 01, merging: "the run with more couplings keeps its tags; on a tie, the run of the first named". The other one gives way.
use mathlib.Core.Path.{◌≡◌}
use Prim.Native.Nat.{ℕ, ◌≤◌}
use native.Mathlib.Omega.{arith}
use mathlib.Core.Bool.{true, false}
use mathlib.Core.List.{List}
use lib.ListN.{length}
use lib.Dec.{leb}
use borrow.Author.Tests.{leb-true, leb-false}
use Rattle.model.specs.Graph.{Edge}
use Rattle.model.specs.Labels.{inner_count, inwards}

-- the chain that gives way has no more regular vertices, be it the second one
pub second_shorter : (es : List Edge) (a b : ℕ) → leb (inner_count es b) (inner_count es a) ≡ true → length (inwards es b) ≤ length (inwards es a)
second_shorter es a b q = let l = leb-true (inner_count es b) (inner_count es a) q in omega (arith, l)

-- or the first
pub first_shorter : (es : List Edge) (a b : ℕ) → leb (inner_count es b) (inner_count es a) ≡ false → length (inwards es a) ≤ length (inwards es b)
first_shorter es a b q = let l = leb-false (inner_count es b) (inner_count es a) q in omega (arith, l)
