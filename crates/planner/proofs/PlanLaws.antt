-- The ways out of the call and of its two weeks.
use mathlib.Core.Path.{◌≡◌, refl, sym, ap, ◌∙◌}
use Prim.Native.Nat.{ℕ, ◌+◌, ◌≤◌, ◌<◌}
use native.Mathlib.Omega.{arith}
use native.Mathlib.Nat.{zero-add}
use mathlib.Core.Bool.{Bool, true, false, ◌||◌}
use mathlib.Core.List.{List}
use mathlib.Core.Option.{Option, none, some, some-injective, some-ne-none}
use lib.ListN.{length}
use lib.Dec.{ltb}
use borrow.Author.Tests.{eq-eqb, ne_eqb, ltb-false}
use Rattle.planner.specs.Numbers.{week, max_flow, max_windows}
use Rattle.planner.specs.Windows.{Window, ordered}
use Rattle.planner.specs.Planning.{Reply, unknown, refuses, reply_of, transit, earliest, out_of_bounds, plan}
use Rattle.planner.specs.Weeks.{shifted, first_in, first_from}
use Rattle.planner.proofs.WeekLaws.{FirstOfWeek, some_first}
use Rattle.planner.proofs.Earliest.{earliest_this, earliest_next, earliest_never}

-- ---- a week

-- a minute found in a week is counted from the week's start; none stays none
pub from_at : (start n from : ℕ) (ws : List Window) (m : ℕ) → some m ≡ first_in n from ws → some (start + m) ≡ first_from start n from ws
unfolding first_from
from_at start n from ws m e = rw (← e, shifted)

pub from_nothing : (start n from : ℕ) (ws : List Window) → none ≡ first_in n from ws → none ≡ first_from start n from ws
unfolding first_from
from_nothing start n from ws e = rw (← e, shifted)

-- so the sum fits in 16 bits
pub from_fits : (n from : ℕ) (ws : List Window) (m : ℕ) → ordered 0 ws ≡ true → some m ≡ first_in n from ws → m ≤ week
from_fits n from ws m o e = let f : FirstOfWeek 0 n from ws m = some_first 0 n 0 from ws m o (sym e) in omega (arith, f.in_week)

-- ---- this week, then the next

module _ (ws : List Window) (n given : ℕ) (o : ordered 0 ws ≡ true) (l : 1 ≤ n) (b : given < week) where
  -- this week's first minute is the earliest; without one, the next week decides
  pub this_is_earliest : (m : ℕ) → first_from 0 n given ws ≡ some m → some m ≡ earliest ws n given
  unfolding first_from
  this_is_earliest m e = go (first_in n given ws) refl
    where
      go : (f : Option ℕ) → first_in n given ws ≡ f → some m ≡ earliest ws n given
      go (some k) q =
          let s : some (0 + k) ≡ some m = rw (q, shifted) at e in
          let t : k ≡ m = sym (zero-add k) ∙ some-injective _ _ s in
          earliest_this ws n given o l b m (q ∙ ap some t)
      go none q = absurd (some-ne-none m (sym (rw (q, shifted) at e)))

  pub next_is_earliest : first_from 0 n given ws ≡ none → first_from week n 0 ws ≡ earliest ws n given
  unfolding first_from
  next_is_earliest e = go (first_in n given ws) refl (first_in n 0 ws) refl
    where
      go : (f : Option ℕ) → first_in n given ws ≡ f → (g : Option ℕ) → first_in n 0 ws ≡ g → first_from week n 0 ws ≡ earliest ws n given
      go (some k) q g p = absurd (some-ne-none (0 + k) (rw (q, shifted) at e))
      go none q (some m) p = rw (p, shifted) (earliest_next ws n given o l b q m p)
      go none q none p = rw (p, shifted) (earliest_never ws n given o l b q p)

-- ---- the call

module _ (volume flow minute : ℕ) (ws : List Window) where
  -- out of bounds: 34
  pub plan_34 : out_of_bounds flow minute ws ≡ true → refuses 34 ≡ plan volume flow minute ws
  unfolding plan
  plan_34 e = rw e

  module _ (e : out_of_bounds flow minute ws ≡ false) where
    -- windows out of order: 35
    pub plan_35 : ordered 0 ws ≡ false → refuses 35 ≡ plan volume flow minute ws
    unfolding plan
    plan_35 o = rw (e, o)

    -- a volume of 0: unknown
    pub plan_unknown : ordered 0 ws ≡ true → volume ≡ 0 → unknown ≡ plan volume flow minute ws
    unfolding plan
    plan_unknown o h = rw (e, o, eq-eqb _ _ h)

    -- any other: the earliest minute, or none
    pub plan_found : (n : ℕ) (r : Reply) → ordered 0 ws ≡ true → (volume ≡ 0 → ⊥) → n ≡ transit volume flow → r ≡ reply_of (earliest ws n minute)
        → r ≡ plan volume flow minute ws
    unfolding plan
    plan_found n r o h t q = rw (e, o, ne_eqb _ _ h, ← t) q

-- what is within bounds
pub record Bounds (flow minute : ℕ) (ws : List Window) : Type 0 where
  pub flow_least : 1 ≤ flow
  pub flow_most : flow ≤ max_flow
  pub this_week : minute < week
  pub count_most : length ws ≤ max_windows

neither : (a b : Bool) → (a || b) ≡ false → (a ≡ false) × (b ≡ false)
neither true b e = absurd (let z : ◌≡◌ {A = ℕ} 0 1 = cc in omega arith)
neither false b e = (refl, e)

-- what is not out of bounds is within all of them
pub bounds : (flow minute : ℕ) (ws : List Window) → out_of_bounds flow minute ws ≡ false → Bounds flow minute ws
unfolding out_of_bounds
bounds flow minute ws e =
    let a = neither (ltb flow 1) (ltb max_flow flow || (ltb 10079 minute || ltb max_windows (length ws))) e in
    let b = neither (ltb max_flow flow) (ltb 10079 minute || ltb max_windows (length ws)) a.1 in
    let c = neither (ltb 10079 minute) (ltb max_windows (length ws)) b.1 in
    let d : minute ≤ 10079 = ltb-false 10079 minute c.0 in
    record {
      flow_least = ltb-false flow 1 a.0;
      flow_most = ltb-false max_flow flow b.0;
      this_week = omega arith;
      count_most = ltb-false max_windows (length ws) c.1;
    }
