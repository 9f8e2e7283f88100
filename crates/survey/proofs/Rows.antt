-- The rows of the sheet as bytes: encoded row by row, and answered.
use mathlib.Core.Path.{◌≡◌, refl, sym, ap, ◌∙◌}
use Prim.Native.Nat.{ℕ, ◌*◌, ◌/◌, ◌≤◌, ◌<◌}
use native.Mathlib.Omega.{arith}
use mathlib.Core.Bool.{Bool, true, false}
use mathlib.Core.List.{List}
use lib.Dec.{leb}
use lib.IntN.{ℤ, pos, neg_ℤ}
use lib.ListN.{length}
use borrow.Author.Tests.{leb-true, leb-false}
use Rattle.model.specs.Basics.{row_size}
use Rattle.model.specs.FromC.{bytes_of, returns_numbers}
use Rattle.model.specs.Queries.{concat}
use Rattle.chains.specs.Chains.{names_in, sheet_in}
use Rattle.chains.proofs.SheetLaws.{RowByRow, sheet_size}
use Rattle.text.specs.Pages.{page, write}
use Rattle.pnl.specs.FromC.{returned}
use Rattle.pnl.proofs.Bytes.{bytes_of_append, numbers_short, numbers_fit}

-- the bytes of rows are those of one row after the other
pub row_bytes_lem : RowByRow bytes_of (λ rows. bytes_of (concat rows))
unfolding concat bytes_of
row_bytes_lem = record { none = refl; first = λ row rows. bytes_of_append row (concat rows) }

-- the bytes of a row, four a number
abbrev row_bytes : ℕ
row_bytes = 4 * row_size

module _ (ds ss es ls vs : List ℕ) (n : ℕ) (ms slice : List ℕ) (fits : Bool) (room : fits ≡ leb (length (names_in ds ss es n ms)) (length slice / row_bytes)) where
  chains : ℕ
  chains = length (names_in ds ss es n ms)

  -- the bytes of all rows
  size : row_bytes * chains ≡ 4 * length (concat (sheet_in ds ss es ls vs n ms))
  unfolding chains
  size = omega (arith, sheet_size ds ss es ls vs n ms)

  -- too short a slice: 9; else all rows, and how many bytes
  pub sheet_short : (v : ℤ) → fits ≡ false → v ≡ neg_ℤ (pos 9) → returned slice v ≡ returns_numbers slice (concat (sheet_in ds ss es ls vs n ms))
  unfolding chains
  sheet_short v h e =
      let l : length slice < row_bytes * chains = omega (arith, leb-false chains (length slice / row_bytes) (sym room ∙ h)) in
      numbers_short slice _ (row_bytes * chains) size v l e

  pub sheet_whole : (k : ℕ) (after : List ℕ) (v : ℤ) → fits ≡ true → k ≡ length (names_in ds ss es n ms)
      → after ≡ (write (bytes_of (concat (sheet_in ds ss es ls vs n ms))) (page slice 0)).slice → v ≡ pos (row_bytes * k)
      → returned after v ≡ returns_numbers slice (concat (sheet_in ds ss es ls vs n ms))
  unfolding chains
  sheet_whole k after v h c e f =
      let l : row_bytes * chains ≤ length slice = omega (arith, leb-true chains (length slice / row_bytes) (sym room ∙ h)) in
      let at : ℕ = (write (bytes_of (concat (sheet_in ds ss es ls vs n ms))) (page slice 0)).at in
      numbers_fit slice _ (row_bytes * chains) size after at v l (ap (λ (xs : List ℕ). page xs at) e) (f ∙ ap (λ (i : ℕ). pos (row_bytes * i)) c)
