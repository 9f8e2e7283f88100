-- The parts of `held`, and that one record more keeps it; the code's step is then the defined one.
use mathlib.Core.Path.{◌≡◌, sym, ap, ◌∙◌}
use Prim.Native.Nat.{ℕ, ◌+◌, ◌-◌, ◌≤◌, ◌<◌}
use native.Mathlib.Omega.{arith}
use mathlib.Core.Bool.{true, ◌&&◌}
use mathlib.Core.List.{List, ◌∷◌}
use lib.ListN.{length, get_or, set, length-set}
use lib.Dec.{eqb, ltb}
use borrow.Author.Tests.{eqb-true, ltb-true, eq-eqb, lt-ltb, le-leb}
use Rattle.tables.proofs.Sums.{sum32_is}
use Rattle.model.proofs.Basics.Booleans.{and_true}
use Rattle.valve.specs.Numbers.{slots, max_amount}
use Rattle.valve.specs.Window.{Record, total, Window, window, after, newest, records_of, sizes_fit, all_within, held}
use Rattle.valve.specs.Calls.{summed, with_record}
use Rattle.valve.specs.Steps.{put_in}
use Rattle.valve.proofs.Ring.{after_below, newest_length, newest_put}
use Rattle.valve.proofs.Totals.{total_cons, total_most, total_next, within_shorter}

-- both tables have their 1,440 slots
pub record Sized (recipes amounts : List ℕ) : Type 0 where
  pub recipes_long : length recipes ≡ slots
  pub amounts_long : length amounts ≡ slots

-- the test of sizes tells that, and the other way round
pub sized : (recipes amounts : List ℕ) → sizes_fit recipes amounts ≡ true → Sized recipes amounts
unfolding sizes_fit
sized recipes amounts e =
    let b = and_true (eqb (length recipes) slots) (eqb (length amounts) slots) e in
    record { recipes_long = eqb-true (length recipes) slots b.0; amounts_long = eqb-true (length amounts) slots b.1 }

pub sizes_fit_lem : (recipes amounts : List ℕ) → Sized recipes amounts → sizes_fit recipes amounts ≡ true
unfolding sizes_fit
sizes_fit_lem recipes amounts s = rw (eq-eqb (length recipes) slots s.recipes_long, eq-eqb (length amounts) slots s.amounts_long)

-- the next slot is one, all records are within bounds, and the sum is theirs
pub record Holds (w : Window) : Type 0 where
  pub inside : w.next < slots
  pub within : all_within (records_of w) ≡ true
  pub sum_is : total (records_of w) ≡ w.sum

-- the test for 21 tells that, and the other way round
pub holds : (w : Window) → held w ≡ true → Holds w
unfolding held
holds w e =
    let a = and_true (ltb w.next slots) (all_within (records_of w) && eqb (total (records_of w)) w.sum) e in
    let b = and_true (all_within (records_of w)) (eqb (total (records_of w)) w.sum) a.1 in
    record { inside = ltb-true w.next slots a.0; within = b.0; sum_is = eqb-true (total (records_of w)) w.sum b.1 }

pub is_held : (w : Window) → Holds w → held w ≡ true
unfolding held
is_held w h = rw (lt-ltb w.next slots h.inside, h.within, eq-eqb (total (records_of w)) w.sum h.sum_is)

-- ---- one record more

within_cons : (r : Record) (rs : List Record) → r.amount ≤ max_amount → all_within rs ≡ true → all_within (r ∷ rs) ≡ true
unfolding all_within
within_cons r rs l e = rw (le-leb r.amount max_amount l) e

module _ (r : Record) (w : Window) (s : Sized w.recipes w.amounts) (h : Holds w) where
  -- the new record, and the others but for the oldest
  pub records_with : records_of (with_record r w) ≡ r ∷ newest w.recipes w.amounts 1439 w.next
  unfolding records_of with_record summed
  records_with = newest_put w.recipes w.amounts w.next r s.recipes_long s.amounts_long h.inside

  -- the oldest leaves the sum
  oldest_leaves : w.sum ≡ total (newest w.recipes w.amounts 1439 w.next) + get_or w.amounts w.next 0
  unfolding records_of
  oldest_leaves = sym h.sum_is ∙ total_next w.recipes w.amounts w.next h.inside

  rest_within : all_within (newest w.recipes w.amounts 1439 w.next) ≡ true
  unfolding records_of
  rest_within = within_shorter w.recipes w.amounts 1439 w.next h.within

  rest_most : total (newest w.recipes w.amounts 1439 w.next) ≤ 1439000000
  rest_most =
      omega (arith, total_most (newest w.recipes w.amounts 1439 w.next) rest_within, newest_length w.recipes w.amounts 1439 w.next)

  with_sum : (with_record r w).sum ≡ r.amount + total (newest w.recipes w.amounts 1439 w.next)
  unfolding with_record summed
  with_sum = ap total (newest_put w.recipes w.amounts w.next r s.recipes_long s.amounts_long h.inside) ∙ total_cons r _

  with_inside : (with_record r w).next < slots
  unfolding with_record summed
  with_inside = after_below w.next

  -- one record more keeps the sizes, and what is held
  pub sized_with : Sized (with_record r w).recipes (with_record r w).amounts
  unfolding with_record summed
  sized_with =
      record {
        recipes_long = length-set w.recipes w.next r.recipe ∙ s.recipes_long;
        amounts_long = length-set w.amounts w.next r.amount ∙ s.amounts_long;
      }

  module _ (l : r.amount ≤ max_amount) where
    pub holds_with : Holds (with_record r w)
    holds_with =
        record {
          inside = with_inside;
          within = ap all_within records_with ∙ within_cons r _ l rest_within;
          sum_is = ap total records_with ∙ total_cons r _ ∙ sym with_sum;
        }

    -- the code's step is the defined one
    pub put_is_with : put_in r w ≡ with_record r w
    unfolding put_in with_record summed
    put_is_with =
        ap (λ (n : ℕ). window (set w.recipes w.next r.recipe) (set w.amounts w.next r.amount) (after w.next) n)
        (sum32_is (w.sum - get_or w.amounts w.next 0) r.amount (omega (arith, oldest_leaves, rest_most)) ∙ same ∙ sym with_sum)
      where
        same : w.sum - get_or w.amounts w.next 0 + r.amount ≡ r.amount + total (newest w.recipes w.amounts 1439 w.next)
        same = omega (arith, oldest_leaves)
