-- A number in decimal, digit by digit.
use mathlib.Core.Path.{◌≡◌, refl, sym, ◌∙◌}
use Prim.Native.Nat.{ℕ, zero, suc, ◌+◌, ◌*◌, ◌/◌, ◌%◌, ◌^◌, ◌≤◌, ◌<◌}
use native.Mathlib.Omega.{arith}
use mathlib.Core.List.{List, [], ◌∷◌, ◌++◌}
use lib.ListN.{length, length-append}
use native.Mathlib.Decide.{dec_lt}
use native.Mathlib.Nat.{mod-eq_of_lt}
use borrow.Author.Tests.{lt-ltb, le-ltb}
use Rattle.model.specs.Printing.{digits_within, decimal, spaced, line}
use Rattle.text.specs.Pages.{Page, write}
use Rattle.text.proofs.PageLaws.{write_two}

within_one : (k n : ℕ) → n < 10 → digits_within k n ≡ (48 + n % 10) ∷ []
unfolding digits_within
within_one zero n h = refl
within_one (suc k) n h = rw (lt-ltb _ _ h, mod-eq_of_lt h, digits_within)

within_more : (k n : ℕ) → 10 ≤ n → digits_within (suc k) n ≡ digits_within k (n / 10) ++ ((48 + n % 10) ∷ [])
unfolding digits_within
within_more k n h = rw (le-ltb _ _ h, digits_within)

-- any two bounds that are enough give the same digits
within_same : (j k n : ℕ) → n ≤ j → n ≤ k → digits_within j n ≡ digits_within k n
within_same zero k n h l = within_one zero n (omega arith) ∙ sym (within_one k n (omega arith))
within_same (suc j) zero n h l = within_one (suc j) n (omega arith) ∙ sym (within_one zero n (omega arith))
within_same (suc j) (suc k) n h l = go (dec_lt n 10) (λ a b. within_same j k (n / 10) a b)
  where
    go : Dec (n < 10) → (n / 10 ≤ j → n / 10 ≤ k → digits_within j (n / 10) ≡ digits_within k (n / 10)) → digits_within (suc j) n ≡ digits_within (suc k) n
    go (yes s) ih = within_one (suc j) n s ∙ sym (within_one (suc k) n s)
    go (no s) ih =
        rw (within_more j n (omega arith), within_more k n (omega arith), ih (omega arith) (omega arith))

pub decimal_one : (n : ℕ) → n < 10 → decimal n ≡ (48 + n % 10) ∷ []
unfolding decimal
decimal_one n h = within_one n n h

pub decimal_more : (n : ℕ) → 10 ≤ n → decimal n ≡ decimal (n / 10) ++ ((48 + n % 10) ∷ [])
unfolding decimal
decimal_more zero h = absurd (omega arith)
decimal_more (suc k) h =
    rw (within_more k (suc k) h, within_same k (suc k / 10) (suc k / 10) (omega arith) (omega arith))

-- a number written: its last digit alone, or behind the others
pub number_one : (n x : ℕ) (p q : Page) → n < 10 → x ≡ 48 + n % 10 → q ≡ write (x ∷ []) p → q ≡ write (decimal n) p
number_one n x p q h e w = rw (decimal_one n h, ← e) w

pub number_more : (n x : ℕ) (p q r : Page) → 10 ≤ n → q ≡ write (decimal (n / 10)) p → x ≡ 48 + n % 10 → r ≡ write (x ∷ []) q
    → r ≡ write (decimal n) p
number_more n x p q r h v e w = rw (decimal_more n h, ← e) (write_two (decimal (n / 10)) (x ∷ []) p q r v w)

-- a number below 10 ^ k has at most k digits
pub decimal_length : (k n : ℕ) → n < 10 ^ suc k → length (decimal n) ≤ suc k
decimal_length zero n h = let l : n < 10 = omega (arith, h) in rw (decimal_one n l) (omega arith)
decimal_length (suc k) n h = go (dec_lt n 10) (decimal_length k (n / 10))
  where
    go : Dec (n < 10) → (n / 10 < 10 ^ suc k → length (decimal (n / 10)) ≤ suc k) → length (decimal n) ≤ suc (suc k)
    go (yes l) ih = rw (decimal_one n l) (omega arith)
    go (no l) ih =
        let m : n / 10 < 10 ^ suc k = omega (arith, h) in
        rw (decimal_more n (omega arith)) (omega (arith, ih m, length-append (decimal (n / 10)) ((48 + n % 10) ∷ [])))

-- the length of a line of numbers below 2 ^ 32
abbrev pub Small : List ℕ → Type 0
Small [] = Unit {0}
Small (n ∷ ns) = (n < 4294967296) × Small ns

-- at most 11 bytes for each: ten digits, and what stands behind them
pub line_length : (n : ℕ) (ns : List ℕ) → Small (n ∷ ns) → length (line (n ∷ ns)) ≤ 11 * length (n ∷ ns)
unfolding line spaced
line_length n [] h = omega (arith, decimal_length 9 n (omega (arith, h.0)), length-append (decimal n) (10 ∷ []))
line_length n (m ∷ ns) h =
    omega (arith, decimal_length 9 n (omega (arith, h.0)), line_length m ns h.1, length-append (decimal n ++ (32 ∷ spaced (m ∷ ns))) (10 ∷ []), length-append (decimal n) (32 ∷ spaced (m ∷ ns)), length-append (spaced (m ∷ ns)) (10 ∷ []))
