-- A text that is written piece by piece: one piece for each number that a loop counts, or for each element of a list.
use mathlib.Core.Path.{◌≡◌, refl}
use Prim.Native.Nat.{ℕ, suc, ◌+◌, ◌-◌, ◌≤◌, ◌<◌}
use native.Mathlib.Nat.{sub-zero}
use native.Mathlib.Numerals.{add-one}
use native.Mathlib.Omega.{arith}
use mathlib.Core.List.{List, [], ◌∷◌, ◌++◌}
use lib.ListN.{length, get_or, drop, drop_of_length-le}
use lib.Seq.{drop-cons}
use Rattle.model.specs.Basics.{count_from, up_to}
use Rattle.text.specs.Pages.{Page, write}
use Rattle.text.proofs.PageLaws.{write_append}

-- the text of numbers is that of the first and then that of the others
pub record Pieces (text : List ℕ → List ℕ) : Type 0 where
  pub none : text [] ≡ []
  pub first : (n : ℕ) (ns : List ℕ) → text (n ∷ ns) ≡ text (n ∷ []) ++ text ns

-- bytes are their own text
pub plain : Pieces (λ ns. ns)
plain = record { none = refl; first = λ n ns. refl }

module _ (text : List ℕ → List ℕ) (pieces : Pieces text) where
  -- A loop writes the text of 0 to n - 1. At number i those from i on end the page as all do: its start, turn i of it, and its end
  pub numbers_start : (n : ℕ) (p : Page) → write (text (count_from 0 (n - 0))) p ≡ write (text (up_to n)) p
  unfolding up_to
  numbers_start n p = rw sub-zero refl

  pub numbers_on : (n i : ℕ) (p q : Page) → i < n → q ≡ write (text (i ∷ [])) p
      → write (text (count_from (i + 1) (n - (i + 1)))) q ≡ write (text (count_from i (n - i))) p
  unfolding count_from
  numbers_on n i p q h w =
      let next : n - i ≡ suc (n - suc i) = omega (arith, h) in
      rw (next, add-one, pieces.first i (count_from (suc i) (n - suc i)), write_append (text (i ∷ [])) (text (count_from (suc i) (n - suc i))) p, ← w) refl

  pub numbers_end : (n i : ℕ) (p : Page) → n ≤ i → p ≡ write (text (count_from i (n - i))) p
  unfolding count_from write
  numbers_end n i p h =
      let none : n - i ≡ 0 = omega (arith, h) in rw (none, pieces.none) refl

  -- a loop over the elements of a list: a turn of it, and its end
  pub elements_on : (ns : List ℕ) (i n : ℕ) (p q : Page) → i < length ns → n ≡ get_or ns i 0 → q ≡ write (text (n ∷ [])) p
      → write (text (drop i ns)) p ≡ write (text (drop (i + 1) ns)) q
  elements_on ns i n p q h a w =
      rw (drop-cons ns i 0 h, add-one, ← a, pieces.first n (drop (suc i) ns), write_append (text (n ∷ [])) (text (drop (suc i) ns)) p, ← w)

  pub elements_end : (ns : List ℕ) (i : ℕ) (p : Page) → length ns ≤ i → p ≡ write (text (drop i ns)) p
  unfolding write
  elements_end ns i p h = rw (drop_of_length-le ns h, pieces.none)
