-- Numbers written as bytes, and what an answer slice holds then.
use mathlib.Core.Path.{◌≡◌, refl, sym, ◌∙◌}
use Prim.Native.Nat.{ℕ, ◌*◌, ◌≤◌, ◌<◌}
use native.Mathlib.Omega.{arith}
use mathlib.Core.List.{List, [], ◌∷◌, ◌++◌, append-nil, append_assoc}
use lib.ListN.{length}
use lib.IntN.{ℤ, pos, neg_ℤ}
use borrow.Author.Tests.{lt-ltb, le-ltb}
use Rattle.model.specs.Basics.{bytes4}
use Rattle.model.specs.FromC.{Returned, bytes_of, returns_numbers, returns_refusal}
use Rattle.text.specs.Pages.{Page, page, write}
use Rattle.text.proofs.PageLaws.{write_front}
use Rattle.text.proofs.Pieces.{Pieces}
use Rattle.pnl.specs.FromC.{returned}

-- ---- bytes

bytes_of_length : (ns : List ℕ) → length (bytes_of ns) ≡ 4 * length ns
unfolding bytes_of bytes4
bytes_of_length [] = refl
bytes_of_length (n ∷ ns) = omega (arith, bytes_of_length ns)

-- the bytes of joined lists, and of one number
pub bytes_of_append : (ms ns : List ℕ) → bytes_of (ms ++ ns) ≡ bytes_of ms ++ bytes_of ns
unfolding bytes_of
bytes_of_append [] ns = refl
bytes_of_append (m ∷ ms) ns = rw (bytes_of_append ms ns) (sym (append_assoc (bytes4 m) (bytes_of ms) (bytes_of ns)))

-- numbers one by one
pub words : Pieces bytes_of
unfolding bytes_of
words = record { none = refl; first = λ n ns. bytes_of_append (n ∷ []) ns }

-- one number is its four bytes
pub word_one : (n : ℕ) (p q : Page) → q ≡ write (bytes4 n) p → q ≡ write (bytes_of (n ∷ [])) p
unfolding bytes_of
word_one n p q e = rw append-nil e

-- ---- the slice

module _ (slice ns : List ℕ) (k : ℕ) (n : k ≡ 4 * length ns) where
  -- too short a slice: 9, and nothing is written; else the bytes, and how many
  pub numbers_short : (v : ℤ) → length slice < k → v ≡ neg_ℤ (pos 9) → returned slice v ≡ returns_numbers slice ns
  unfolding returns_numbers returns_refusal
  numbers_short v h e =
      let l : length slice < length (bytes_of ns) = omega (arith, bytes_of_length ns) in
      rw (lt-ltb (length slice) (length (bytes_of ns)) l, e)

  pub numbers_fit : (after : List ℕ) (at : ℕ) (v : ℤ) → k ≤ length slice → page after at ≡ write (bytes_of ns) (page slice 0) → v ≡ pos k
      → returned after v ≡ returns_numbers slice ns
  unfolding returns_numbers
  numbers_fit after at v h e f =
      let m : k ≡ length (bytes_of ns) = n ∙ sym (bytes_of_length ns) in
      let l : length (bytes_of ns) ≤ length slice = omega arith in
      rw (le-ltb (length slice) (length (bytes_of ns)) l, write_front (bytes_of ns) slice after at l e, f, m)

-- four numbers, of which the first two have other names
pub four_numbers : (slice : List ℕ) (m n k l x y : ℕ) (z : Returned) → m ≡ n → k ≡ l → z ≡ returns_numbers slice (m ∷ k ∷ x ∷ y ∷ [])
    → z ≡ returns_numbers slice (n ∷ l ∷ x ∷ y ∷ [])
four_numbers slice m n k l x y z e f q = rw (← e, ← f) q
