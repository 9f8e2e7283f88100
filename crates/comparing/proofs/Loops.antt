-- The counts over two texts and over one, as chains of iterators give them.
use Rattle.std.specs.Prelude.{ℕ, ◌+◌, ◌≤◌, Bool, true, false, List, [], ◌∷◌, ◌==◌, ◌≡◌, cond, count_by, length, take, take_while, zip}
use mathlib.Core.Path.{refl, ap, ◌∙◌}
use native.Mathlib.Omega.{arith}
use lib.ListN.{length-take}
use Rattle.std.specs.List.{prefix_len}
use Rattle.std.proofs.lemmas.List.Folds.{length-prefix_len}
use Rattle.std.proofs.lemmas.List.Sums.{sum_by-cons}
use Rattle.comparing.specs.Beginnings.{common, end_at, line_ends}
use Rattle.comparing.proofs.ByBytes.{ends_le}

-- the pairs of equal bytes from the front on
pairs_are : (xs ys : List ℕ) → prefix_len (λ (p : ℕ × ℕ). p.0 == p.1) (zip xs ys) ≡ common xs ys
unfolding common
pairs_are [] ys = refl
pairs_are (x ∷ xs) [] = refl
pairs_are (x ∷ xs) (y ∷ ys) = go (x == y) refl (pairs_are xs ys)
  where
    go : (b : Bool) → (x == y) ≡ b → prefix_len (λ (p : ℕ × ℕ). p.0 == p.1) (zip xs ys) ≡ common xs ys
        → prefix_len (λ (p : ℕ × ℕ). p.0 == p.1) (zip (x ∷ xs) (y ∷ ys)) ≡ common (x ∷ xs) (y ∷ ys)
    go true e ih = rw (e, common) (omega (arith, ih))
    go false e ih = rw (e, common)

pub common_is : (xs ys : List ℕ) → length (take_while (λ (p : ℕ × ℕ). p.0 == p.1) (zip xs ys)) ≡ common xs ys
common_is xs ys = length-prefix_len (λ (p : ℕ × ℕ). p.0 == p.1) (zip xs ys) ∙ pairs_are xs ys

-- the bytes that end a line
pub ends_are : (xs : List ℕ) → count_by (λ b. b == 10) xs ≡ line_ends xs
unfolding line_ends end_at
ends_are [] = refl
ends_are (x ∷ xs) = sum_by-cons _ x xs ∙ ap (λ (n : ℕ). cond (x == 10) 1 0 + n) (ends_are xs)

-- there are no more line ends than bytes, and at most one in a byte
pub ends_fit : (xs : List ℕ) (c n : ℕ) → n ≡ line_ends (take c xs) → n ≤ length xs
ends_fit xs c n e = omega (arith, e, ends_le (take c xs), length-take c xs)
