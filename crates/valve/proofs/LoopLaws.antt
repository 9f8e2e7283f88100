-- The ways out of the two walks back, and a turn of each; one record more.
use mathlib.Core.Path.{◌≡◌, ap}
use Prim.Native.Nat.{ℕ, suc, ◌+◌, ◌-◌, ◌≤◌, ◌<◌}
use native.Mathlib.Omega.{arith}
use mathlib.Core.Bool.{true, false}
use mathlib.Core.List.{List}
use lib.ListN.{get_or, set}
use lib.Dec.{eqb}
use borrow.Author.Tests.{lt-ltb, le-ltb, le-leb, lt-leb}
use Rattle.tables.specs.Steps.{sum32}
use Rattle.valve.specs.Numbers.{slots, max_amount}
use Rattle.valve.specs.Window.{record_of, total, Window, window, before, after, newest, records_of, all_within, held}
use Rattle.valve.specs.Valve.{recipe_is, older, at_valve}
use Rattle.valve.specs.Steps.{put_in}

-- ---- the recipe at the valve

module _ (ks xs : List ℕ) where
  -- no record is left; this one answers; the next one back
  pub valve_end : (v n i : ℕ) → n ≡ 0 → older ≡ at_valve v (newest ks xs n i)
  unfolding newest at_valve
  valve_end v n i h = rw h

  module _ (m n i j a : ℕ) (l : m ≡ suc n) (p : j ≡ before i) (q : a ≡ get_or xs j 0) where
    pub valve_here : (v x : ℕ) → v < a → x ≡ get_or ks j 0 → recipe_is x ≡ at_valve v (newest ks xs m i)
    unfolding newest at_valve
    valve_here v x h e = rw (l, ← p, ← q, lt-ltb v a h, at_valve, ← p) (ap recipe_is e)

    pub valve_on : (v : ℕ) → a ≤ v → at_valve v (newest ks xs m i) ≡ at_valve (v - a) (newest ks xs n j)
    unfolding newest at_valve
    valve_on v h = rw (l, ← p, ← q, le-ltb v a h, at_valve, ← p, ← q)

    -- ---- the test for 21: one record that is too much; the next one back

    pub within_not : max_amount < a → all_within (newest ks xs m i) ≡ false
    unfolding newest all_within
    within_not h = rw (l, ← p, ← q, lt-leb a max_amount h)

    pub within_on : a ≤ max_amount → all_within (newest ks xs m i) ≡ all_within (newest ks xs n j)
    unfolding newest all_within
    within_on h = rw (l, ← p, ← q, le-leb a max_amount h)

    total_more : total (newest ks xs m i) ≡ a + total (newest ks xs n j)
    unfolding newest total
    total_more = rw (l, ← p, ← q)

    pub sum_on : (s t : ℕ) → s + total (newest ks xs m i) ≡ t → s + a + total (newest ks xs n j) ≡ t
    sum_on s t e = omega (arith, total_more)

  -- the sum and the bounds of no records
  pub sum_end : (n i s t : ℕ) → n ≡ 0 → s + total (newest ks xs n i) ≡ t → s ≡ t
  unfolding newest total
  sum_end n i s t h e = let z : s + total (newest ks xs 0 i) ≡ t = rw h at e in omega arith

  pub within_end : (n i : ℕ) → n ≡ 0 → all_within (newest ks xs n i) ≡ true
  unfolding newest all_within
  within_end n i h = rw h

module _ (w : Window) where
  -- a next slot past the end; a record that is too much; else the sum decides
  pub held_past : slots ≤ w.next → false ≡ held w
  unfolding held
  held_past h = rw (le-ltb w.next slots h)

  pub held_too_much : w.next < slots → all_within (records_of w) ≡ false → false ≡ held w
  unfolding held
  held_too_much h e = rw (lt-ltb w.next slots h, e)

  pub held_sum : (s : ℕ) → w.next < slots → all_within (records_of w) ≡ true → s ≡ total (records_of w) → eqb s w.sum ≡ held w
  unfolding held
  held_sum s h e q = rw (lt-ltb w.next slots h, e, ← q)

-- ---- one record more

-- a record stored, the next slot and the sum moved on: one record more
pub put_law : (ks xs ks' xs' : List ℕ) (i sum recipe amount old rest next sum' : ℕ) → old ≡ get_or xs i 0 → rest ≡ sum - old
    → ks' ≡ set ks i recipe → xs' ≡ set xs i amount → next ≡ after i → sum' ≡ sum32 rest amount
    → window ks' xs' next sum' ≡ put_in (record_of recipe amount) (window ks xs i sum)
unfolding put_in
put_law ks xs ks' xs' i sum recipe amount old rest next sum' a b c d e f = rw (← a, ← b, ← c, ← d, ← e, ← f)
