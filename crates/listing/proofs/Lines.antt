-- The lines of the sheet, one after the other, and how far a line moves the position.
use mathlib.Core.Path.{◌≡◌, refl, ap}
use Prim.Native.Nat.{ℕ, ◌+◌, ◌*◌, ◌≤◌, ◌<◌}
use native.Mathlib.Omega.{arith}
use mathlib.Core.Bool.{Bool, true, false}
use mathlib.Core.List.{List, [], ◌∷◌, ◌++◌}
use lib.Dec.{eqb}
use lib.ListN.{length, length-append}
use Rattle.model.specs.Printing.{line, row_line, row_lines, spaced, stop_line, volume_text}
use Rattle.model.specs.Format.{stopped}
use Rattle.chains.proofs.SheetLaws.{RowByRow}
use Rattle.text.specs.Pages.{Page, write}
use Rattle.text.proofs.PageLaws.{write_at}
use Rattle.text.proofs.Decimal.{Small, decimal_length, line_length}
use Rattle.text.proofs.LineLaws.{stop_length}
use Rattle.listing.specs.Listing.{field_bytes, row_bytes, stop_bytes}

-- the lines of rows are those of one row after the other
pub row_lines_lem : RowByRow row_line row_lines
unfolding row_lines
row_lines_lem = record { none = refl; first = λ row rows. refl }

-- how far a line moves the position
pub line_at : (n : ℕ) (ns : List ℕ) (p q : Page) → Small (n ∷ ns) → q ≡ write (line (n ∷ ns)) p → q.at ≤ p.at + field_bytes * length (n ∷ ns)
line_at n ns p q s e =
    let a : q.at ≡ (write (line (n ∷ ns)) p).at = ap (λ (x : Page). x.at) e in
    omega (arith, a, write_at (line (n ∷ ns)) p, line_length n ns s)

-- how far the line of a row does
spaced_length : (n : ℕ) (ns : List ℕ) → Small (n ∷ ns) → length (spaced (n ∷ ns)) + 1 ≤ field_bytes * length (n ∷ ns)
unfolding line
spaced_length n ns s = omega (arith, line_length n ns s, length-append (spaced (n ∷ ns)) (10 ∷ []))

volume_length : (v : ℕ) → v < 4294967296 → length (volume_text v) + 1 ≤ field_bytes
unfolding volume_text
volume_length v h = go (eqb v 0) refl
  where
    go : (b : Bool) → eqb v 0 ≡ b → length (volume_text v) + 1 ≤ field_bytes
    go true q = rw q (omega arith)
    go false q = rw q (omega (arith, decimal_length 9 v (omega arith)))

row_length : (a b c d e v : ℕ) → Small (a ∷ b ∷ c ∷ d ∷ e ∷ v ∷ []) → length (row_line (a ∷ b ∷ c ∷ d ∷ e ∷ v ∷ [])) ≤ row_bytes
unfolding row_line
row_length a b c d e v s =
    let five : Small (a ∷ b ∷ c ∷ d ∷ e ∷ []) = (s.0, (s.1.0, (s.1.1.0, (s.1.1.1.0, (s.1.1.1.1.0, tt))))) in
    omega (
      arith,
      spaced_length a (b ∷ c ∷ d ∷ e ∷ []) five,
      volume_length v s.1.1.1.1.1.0,
      length-append (volume_text v) (10 ∷ []),
      length-append (spaced (a ∷ b ∷ c ∷ d ∷ e ∷ [])) (32 ∷ (volume_text v ++ (10 ∷ []))),
    )

-- at most so many bytes
pub row_at : (a b c d e v : ℕ) (p q : Page) → Small (a ∷ b ∷ c ∷ d ∷ e ∷ v ∷ []) → q ≡ write (row_line (a ∷ b ∷ c ∷ d ∷ e ∷ v ∷ [])) p → q.at ≤ p.at + row_bytes
row_at a b c d e v p q s w =
    let at : q.at ≡ (write (row_line (a ∷ b ∷ c ∷ d ∷ e ∷ v ∷ [])) p).at = ap (λ (x : Page). x.at) w in
    omega (arith, at, write_at (row_line (a ∷ b ∷ c ∷ d ∷ e ∷ v ∷ [])) p, row_length a b c d e v s)

-- how far the line of a stop does
pub stop_at : (k x : ℕ) (p q : Page) → k < 18446744073709551616 → x < 4294967296 → q ≡ write (stop_line (stopped k x)) p → q.at ≤ p.at + stop_bytes
stop_at k x p q hk hx e =
    let a : q.at ≡ (write (stop_line (stopped k x)) p).at = ap (λ (z : Page). z.at) e in
    omega (arith, a, write_at (stop_line (stopped k x)) p, stop_length k x hk hx)
