-- Eight numbers: their sum, and whether a house is not empty.
use mathlib.Core.Path.{◌≡◌, refl, sym, ap, ◌∙◌}
use mathlib.Core.Logic.{◌≢◌}
use Prim.Native.Nat.{ℕ, ◌<◌}
use mathlib.Core.Bool.{Bool, true, false, not, true≢false}
use mathlib.Core.List.{List, map}
use lib.ListN.{length, get_or}
use native.Mathlib.Omega.{arith}
use lib.Dec.{eqb}
use borrow.Author.Tests.{eq-eqb, ne_eqb}
use Rattle.std.specs.Bool.{MatchBool}
use Rattle.std.specs.List as std
use Rattle.std.specs.List.{AllWithin, HoldsAt}
use Rattle.std.proofs.lemmas.List.Recursion.{is_sum_by, or_is}
use Rattle.model.specs.Basics.{sum}
use Rattle.nursery.specs.Licence.{houses}
use Rattle.nursery.specs.Calls.{any_some}
use Rattle.counters.specs.declared.counts.Counts.{Counts}
use Rattle.heads.specs.declared.heads.Heads.{Heads}
use Rattle.heads.specs.Meaning.{as_heads}
use Rattle.heads.proofs.HeadLaws.{eight_are}
use Rattle.sharing.specs.Meaning.{vertices_of}

-- the sum of the model is that of the library
pub sum_is : (xs : List ℕ) → std.sum xs ≡ sum xs
unfolding sum
sum_is xs = sym (is_sum_by sum (λ x. x) refl (λ _ _. refl) xs)

abbrev empty : Counts
empty = record { vertices = 0; edges = 0; blocks = 0; relabellings = 0 }

-- the array has the vertices of each house
vertices_are : (heads : Heads) → length heads.counts ≡ houses → map (λ (c : Counts). c.vertices) heads.counts ≡ vertices_of heads
unfolding vertices_of as_heads
vertices_are heads l = ap (map (λ (c : Counts). c.vertices)) (sym (eight_are empty heads.counts l))

-- what `any` tells when it is asked whether a house has vertices
abbrev pub Told : List Counts → Bool → Type 0
Told cs r = MatchBool r ((k : ℕ) × (k < length cs) × HoldsAt (λ (c : Counts). c.vertices ≢ 0) cs k) (AllWithin (λ (c : Counts). c.vertices ≡ 0) cs 0 (length cs))

abbrev has_some : Counts → Bool
has_some c = not (eqb c.vertices 0)

some_told : (cs : List Counts) (r : Bool) → Told cs r → r ≡ true → (k : ℕ) × (k < length cs) × (has_some (get_or cs k empty) ≡ true)
some_told cs true t e = (t.0, t.1, rw (ne_eqb (get_or cs t.0 empty).vertices 0 (t.2 empty)))
some_told cs false t e = absurd (true≢false (sym e))

none_told : (cs : List Counts) (r : Bool) → Told cs r → r ≡ false → (k : ℕ) → k < length cs → has_some (get_or cs k empty) ≡ false
none_told cs true t e = absurd (true≢false e)
none_told cs false t e = λ k h. rw (eq-eqb (get_or cs k empty).vertices 0 (t k empty (omega arith) h))

-- is whether one of the eight numbers is not 0
pub any_is : (heads : Heads) (r : Bool) → length heads.counts ≡ houses → Told heads.counts r → r ≡ any_some (vertices_of heads)
unfolding any_some
any_is heads r l t =
    let cs = heads.counts in
    or_is (λ (ds : List Counts). any_some (map (λ (c : Counts). c.vertices) ds)) has_some refl (λ _ _. refl) cs empty r (some_told cs r t) (none_told cs r t)
    ∙ ap any_some (vertices_are heads l)
