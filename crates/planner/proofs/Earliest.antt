-- What the code computes, this week's windows and then the next week's, is the first minute found by trying each; and what holds of it.
use mathlib.Core.Path.{◌≡◌, sym, ◌∙◌}
use Prim.Native.Nat.{ℕ, ◌+◌, ◌-◌, ◌*◌, ◌≤◌, ◌<◌}
use native.Mathlib.Omega.{arith}
use native.Mathlib.Decide.{dec_lt}
use native.Mathlib.Nat.{zero-add}
use mathlib.Core.Bool.{true, false}
use mathlib.Core.List.{List}
use mathlib.Core.Option.{none, some}
use Rattle.planner.specs.Numbers.{week}
use Rattle.planner.specs.Windows.{Window, ordered}
use Rattle.planner.specs.Planning.{inside_one, possible_at, earliest}
use Rattle.planner.specs.Weeks.{first_in}
use Rattle.planner.proofs.Search.{First, first_is, first_none}
use Rattle.planner.proofs.WeekLaws.{FirstOfWeek, some_first, none_first, none_before}

module _ (ws : List Window) (n minute : ℕ) (o : ordered 0 ws ≡ true) (l : 1 ≤ n) (b : minute < week) where
  possible_this : (m : ℕ) → inside_one 0 n m ws ≡ true → possible_at ws n m ≡ true
  unfolding possible_at
  possible_this m e = rw e

  possible_next : (m : ℕ) → inside_one 0 n m ws ≡ false → possible_at ws n m ≡ inside_one week n m ws
  unfolding possible_at
  possible_next m e = rw e

  -- before the next week begins, none of its windows is at hand
  next_before : (j : ℕ) → j < week → inside_one week n j ws ≡ false
  next_before j h = none_before week n 0 ws j o (omega arith)

  first_this : (m : ℕ) → FirstOfWeek 0 n minute ws m → First (possible_at ws n) minute (2 * week - minute) m
  first_this m f =
      record {
        from = f.not_before;
        below = omega (arith, f.in_week);
        passes = possible_this m (rw (zero-add m) at f.lies);
        least = λ j a h. possible_next j (f.least j (omega arith) (omega arith)) ∙ next_before j (omega (arith, f.in_week));
      }

  -- a minute of this week is the earliest
  pub earliest_this : (m : ℕ) → first_in n minute ws ≡ some m → some m ≡ earliest ws n minute
  unfolding earliest
  earliest_this m e = sym (first_is (possible_at ws n) (2 * week - minute) minute m (first_this m (some_first 0 n 0 minute ws m o e)))

  -- from here on this week has none
  module _ (nothing : first_in n minute ws ≡ none) where
    next_from : (m : ℕ) → FirstOfWeek week n 0 ws m → (j : ℕ) → j < week + m → Dec (j < week) → inside_one week n j ws ≡ false
    next_from m f j h (yes a) = next_before j a
    next_from m f j h (no a) = f.least j (omega arith) h

    first_next : (m : ℕ) → FirstOfWeek week n 0 ws m → First (possible_at ws n) minute (2 * week - minute) (week + m)
    first_next m f =
        record {
          from = omega arith;
          below = omega (arith, f.in_week);
          passes = possible_next (week + m) (none_first 0 n minute ws nothing (week + m) (omega arith)) ∙ f.lies;
          least = λ j a h. possible_next j (none_first 0 n minute ws nothing j (omega arith)) ∙ next_from m f j h (dec_lt j week);
        }

    -- without one, a minute of the next week is
    pub earliest_next : (m : ℕ) → first_in n 0 ws ≡ some m → some (week + m) ≡ earliest ws n minute
    unfolding earliest
    earliest_next m e = sym (first_is (possible_at ws n) (2 * week - minute) minute (week + m) (first_next m (some_first week n 0 0 ws m o e)))

    never_from : first_in n 0 ws ≡ none → (j : ℕ) → Dec (j < week) → inside_one week n j ws ≡ false
    never_from e j (yes a) = next_before j a
    never_from e j (no a) = none_first week n 0 ws e j (omega arith)

    -- without either there is none
    pub earliest_never : first_in n 0 ws ≡ none → none ≡ earliest ws n minute
    unfolding earliest
    earliest_never e =
        sym (first_none (possible_at ws n) (2 * week - minute) minute
        (λ j a h. possible_next j (none_first 0 n minute ws nothing j (omega arith)) ∙ never_from e j (dec_lt j week)))
