-- Lines, field by field, and the line of a stop.
use mathlib.Core.Path.{◌≡◌, sym}
use Prim.Native.Nat.{ℕ, ◌≤◌, ◌<◌}
use native.Mathlib.Omega.{arith}
use mathlib.Core.List.{List, [], ◌∷◌, ◌++◌, append_assoc}
use borrow.Author.Tests.{eq-eqb, ne_eqb}
use mathlib.Core.Logic.{◌≢◌}
use lib.ListN.{length, length-append}
use Rattle.model.specs.Format.{stopped}
use Rattle.model.specs.Printing.{ascii, decimal, spaced, line, row_line, volume_text, stop_line}
use Rattle.text.specs.Pages.{Page, write}
use Rattle.text.proofs.Decimal.{decimal_length}
use Rattle.text.proofs.PageLaws.{write_two}

spaced_is : (n m : ℕ) (ns bs : List ℕ) → spaced (n ∷ m ∷ ns) ++ bs ≡ decimal n ++ (32 ∷ []) ++ (spaced (m ∷ ns) ++ bs)
unfolding spaced
spaced_is n m ns bs = rw (append_assoc (decimal n) (32 ∷ []) (spaced (m ∷ ns) ++ bs), append_assoc (decimal n) (32 ∷ spaced (m ∷ ns)) bs)

-- the first field of some, and the rest
spaced_more : (n m : ℕ) (ns bs : List ℕ) (p q r : Page) → q ≡ write (decimal n ++ (32 ∷ [])) p → r ≡ write (spaced (m ∷ ns) ++ bs) q
    → r ≡ write (spaced (n ∷ m ∷ ns) ++ bs) p
spaced_more n m ns bs p q r e f = rw (spaced_is n m ns bs) (write_two (decimal n ++ (32 ∷ [])) (spaced (m ∷ ns) ++ bs) p q r e f)

-- the first field of a line
pub line_more : (n m : ℕ) (ns : List ℕ) (p q r : Page) → q ≡ write (decimal n ++ (32 ∷ [])) p → r ≡ write (line (m ∷ ns)) q
    → r ≡ write (line (n ∷ m ∷ ns)) p
unfolding line
line_more n m ns p q r e f = spaced_more n m ns (10 ∷ []) p q r e f

-- one field, and other bytes
one_more : (n : ℕ) (bs : List ℕ) (p q r : Page) → q ≡ write (decimal n ++ (32 ∷ [])) p → r ≡ write bs q → r ≡ write (spaced (n ∷ []) ++ (32 ∷ bs)) p
unfolding spaced
one_more n bs p q r e f = rw (sym (append_assoc (decimal n) (32 ∷ []) bs)) (write_two (decimal n ++ (32 ∷ [])) bs p q r e f)

-- the last field
pub line_one : (n : ℕ) (p q : Page) → q ≡ write (decimal n ++ (10 ∷ [])) p → q ≡ write (line (n ∷ [])) p
unfolding line spaced
line_one n p q e = e

-- ---- a row

-- the volume, and the line's end
pub volume_unknown : (v : ℕ) (word : List ℕ) (p q : Page) → v ≡ 0 → word ≡ 45 ∷ 10 ∷ [] → q ≡ write word p → q ≡ write (volume_text v ++ (10 ∷ [])) p
unfolding volume_text
volume_unknown v word p q z w e = rw (eq-eqb v 0 z, ← w) e

pub volume_known : (v : ℕ) (p q : Page) → v ≢ 0 → q ≡ write (decimal v ++ (10 ∷ [])) p → q ≡ write (volume_text v ++ (10 ∷ [])) p
unfolding volume_text
volume_known v p q n e = rw (ne_eqb v 0 n) e

-- five numbers, and the volume
pub row_law : (a b c d e v : ℕ) (p₀ p₁ p₂ p₃ p₄ p₅ p₆ : Page) → p₁ ≡ write (decimal a ++ (32 ∷ [])) p₀ → p₂ ≡ write (decimal b ++ (32 ∷ [])) p₁
    → p₃ ≡ write (decimal c ++ (32 ∷ [])) p₂ → p₄ ≡ write (decimal d ++ (32 ∷ [])) p₃ → p₅ ≡ write (decimal e ++ (32 ∷ [])) p₄
    → p₆ ≡ write (volume_text v ++ (10 ∷ [])) p₅ → p₆ ≡ write (row_line (a ∷ b ∷ c ∷ d ∷ e ∷ v ∷ [])) p₀
unfolding row_line
row_law a b c d e v p₀ p₁ p₂ p₃ p₄ p₅ p₆ f₁ f₂ f₃ f₄ f₅ f₆ =
    more a b (c ∷ d ∷ e ∷ []) p₀ p₁ f₁ (more b c (d ∷ e ∷ []) p₁ p₂ f₂ (more c d (e ∷ []) p₂ p₃ f₃ (more d e [] p₃ p₄ f₄ last)))
  where
    end : List ℕ
    end = volume_text v ++ (10 ∷ [])

    more : (n m : ℕ) (ns : List ℕ) (p q : Page) → q ≡ write (decimal n ++ (32 ∷ [])) p → p₆ ≡ write (spaced (m ∷ ns) ++ (32 ∷ end)) q
        → p₆ ≡ write (spaced (n ∷ m ∷ ns) ++ (32 ∷ end)) p
    more n m ns p q g h = spaced_more n m ns (32 ∷ end) p q p₆ g h

    last : p₆ ≡ write (spaced (e ∷ []) ++ (32 ∷ end)) p₄
    last = one_more e end p₄ p₅ p₆ f₅ f₆

-- a stop: the word, then its two numbers
pub stop_parts : (k x : ℕ) (word : List ℕ) (p q r : Page) → word ≡ ascii "stopped " → q ≡ write word p → r ≡ write (line (k ∷ x ∷ [])) q
    → r ≡ write (stop_line (stopped k x)) p
unfolding stop_line
stop_parts k x word p q r w e f = rw (← w) (write_two word (line (k ∷ x ∷ [])) p q r e f)

-- at most 8 bytes of the word, 20 and 10 digits, a space and the line's end
pub stop_length : (k x : ℕ) → k < 18446744073709551616 → x < 4294967296 → length (stop_line (stopped k x)) ≤ 40
unfolding stop_line line spaced ascii
stop_length k x hk hx =
    omega (arith, decimal_length 19 k (omega arith), decimal_length 9 x (omega arith), length-append (decimal k ++ (32 ∷ decimal x)) (10 ∷ []), length-append (decimal k) (32 ∷ decimal x))
