-- Refusal 21: each window that passes is left by some series of arrivals from empty: its own slots in order, and then once more those
-- before its next slot.
use mathlib.Core.Path.{◌≡◌, refl, sym, ap, ◌∙◌, subst}
use Prim.Native.Nat.{ℕ, zero, suc, ◌+◌, ◌-◌, ◌≤◌, ◌<◌, max}
use native.Mathlib.Omega.{arith}
use native.Mathlib.Decide.{ℕ_discrete, dec_lt}
use native.Mathlib.Numerals.{add-one}
use native.Mathlib.Nat.{zero-add, add-zero, max-eq_left}
use mathlib.Core.Bool.{Bool, true, false}
use mathlib.Core.List.{List, [], ◌∷◌, ◌++◌, map}
use lib.ListN.{length, get_or, set}
use lib.Seq.{get_or-set_same, get_or-set_other, ext_get_or}
use lib.Dec.{leb}
use borrow.Author.Tests.{leb-true}
use Rattle.model.proofs.Basics.Booleans.{and_true}
use Rattle.valve.specs.Numbers.{slots, max_amount, max_recipe}
use Rattle.valve.specs.Window.{Record, record_of, total, Window, window, empty, before, after, newest, records_of, sizes_fit, all_within, held}
use Rattle.valve.specs.Calls.{summed, with_record, Outcome}
use Rattle.valve.specs.Series.{arrival, makes, series, Narrow, recipes_of, NotFromArrivals, LeftExactly}
use Rattle.valve.proofs.Ring.{before_first, after_inside, after_last, back_by, back_some, back_add, back_suc}
use Rattle.valve.proofs.Holding.{Sized, sized, sizes_fit_lem, Holds, holds, is_held, sized_with, holds_with}
use Rattle.valve.proofs.CallLaws.{gate_21, arrive_21, ask_refused, arrive_with}
use Rattle.valve.proofs.Arrivals.{Keeps, keeps_empty, keeps_series}

-- ---- every slot is walked over

within_at : (recipes amounts : List ℕ) (m n i : ℕ) → m < n → all_within (newest recipes amounts n i) ≡ true → get_or amounts (back_by (suc m) i) 0 ≤ max_amount
unfolding newest all_within back_by
within_at recipes amounts m zero i l e = absurd (omega arith)
within_at recipes amounts zero (suc n) i l e =
    leb-true (get_or amounts (before i) 0) max_amount (and_true (leb (get_or amounts (before i) 0) max_amount) (all_within (newest recipes amounts n (before i))) e).0
within_at recipes amounts (suc m) (suc n) i l e =
    within_at recipes amounts m n (before i) (omega arith)
    (and_true (leb (get_or amounts (before i) 0) max_amount) (all_within (newest recipes amounts n (before i))) e).1

-- how many slots back slot k is
back_to : (i k : ℕ) → i < slots → k < slots → (m : ℕ) × ((m < slots) × (back_by (suc m) i ≡ k))
back_to i k h l = go (dec_lt k i)
  where
    go : Dec (k < i) → (m : ℕ) × ((m < slots) × (back_by (suc m) i ≡ k))
    go (yes a) = (i - suc k, (omega arith, back_some (suc (i - suc k)) i (omega arith) ∙ (omega arith)))
    go (no a) =
        let n : suc (i + (1439 - k)) ≡ i + suc (1439 - k) = omega arith in
        let z : back_by i i ≡ 0 = back_some i i (omega arith) ∙ (omega arith) in
        let b : back_by (1439 - k) 1439 ≡ k = back_some (1439 - k) 1439 (omega arith) ∙ (omega arith) in (
          i + (1439 - k),
          (
            omega arith,
            ap (λ (m : ℕ). back_by m i) n ∙ back_add i (suc (1439 - k)) i ∙ ap (λ (j : ℕ). back_by (suc (1439 - k)) j) z
                ∙ back_suc (1439 - k) 0 ∙ ap (λ (j : ℕ). back_by (1439 - k) j) (before_first 0 refl) ∙ b,
          ),
        )

-- ---- recipes of 16 bits

narrow_at : (ns : List ℕ) (i : ℕ) → Narrow ns → get_or ns i 0 ≤ max_recipe
unfolding Narrow
narrow_at [] i a = omega arith
narrow_at (n ∷ ns) zero a = a.0
narrow_at (n ∷ ns) (suc i) a = narrow_at ns i a.1

narrow_append : (rs ss : List Record) → Narrow (recipes_of rs) → Narrow (recipes_of ss) → Narrow (recipes_of (rs ++ ss))
unfolding Narrow
narrow_append [] ss a b = b
narrow_append (r ∷ rs) ss a b = (a.0, narrow_append rs ss a.1 b)

-- the window that these arrivals leave
leaving : List Record → Window → Window
leaving rs u = series (map arrival rs) u

module _ (w : Window) (s : Sized w.recipes w.amounts) (h : Holds w) where
  slot : ℕ → Record
  slot k = record_of (get_or w.recipes k 0) (get_or w.amounts k 0)

  slot_within : (k : ℕ) → k < slots → get_or w.amounts k 0 ≤ max_amount
  unfolding records_of
  slot_within k l =
      let b = back_to w.next k h.inside l in
      subst (λ (j : ℕ). get_or w.amounts j 0 ≤ max_amount) b.1.1 (within_at w.recipes w.amounts b.0 slots w.next b.1.0 h.within)

  -- ---- writing slots in order

  writing : ℕ → ℕ → List Record
  writing i zero = []
  writing i (suc n) = slot i ∷ writing (suc i) n

  writing_narrow : (n i : ℕ) → Narrow w.recipes → Narrow (recipes_of (writing i n))
  unfolding writing slot Narrow
  writing_narrow zero i a = tt
  writing_narrow (suc n) i a = (narrow_at w.recipes i a, writing_narrow n (suc i) a)

  -- slot i is the next, or the first one if i is past the last; the slots below b hold what those of w do
  record Filled (i b : ℕ) (u : Window) : Type 0 where
    sizes : Sized u.recipes u.amounts
    holding : Holds u
    next_is : i < slots → u.next ≡ i
    next_end : i ≡ slots → u.next ≡ 0
    same_recipes : (k : ℕ) → k < b → get_or u.recipes k 0 ≡ get_or w.recipes k 0
    same_amounts : (k : ℕ) → k < b → get_or u.amounts k 0 ≡ get_or w.amounts k 0

  -- the next slot of a list takes what w has there
  same_set : (xs ys : List ℕ) (i b k : ℕ) → i < length xs → ((j : ℕ) → j < b → get_or xs j 0 ≡ get_or ys j 0) → i ≤ b → k < max b (suc i)
      → Dec (k ≡ i) → get_or (set xs i (get_or ys i 0)) k 0 ≡ get_or ys k 0
  same_set xs ys i b k l all a c (yes q) = rw q (get_or-set_same xs i (get_or ys i 0) 0 l)
  same_set xs ys i b k l all a c (no q) = get_or-set_other xs i k (get_or ys i 0) 0 q ∙ all k (omega arith)

  filled_with : (i b : ℕ) (u : Window) → i < slots → i ≤ b → Filled i b u → Filled (suc i) (max b (suc i)) (with_record (slot i) u)
  unfolding with_record summed slot
  filled_with i b u l a f =
      let e : u.next ≡ i = f.next_is l in
      record {
        sizes = sized_with (slot i) u f.sizes f.holding;
        holding = holds_with (slot i) u f.sizes f.holding (slot_within i l);
        next_is = λ g. ap after e ∙ after_inside i (omega arith) ∙ add-one i;
        next_end = λ g. ap after e ∙ after_last i (omega arith);
        same_recipes = λ k c. rw e (same_set u.recipes w.recipes i b k (omega (arith, f.sizes.recipes_long)) f.same_recipes a c (ℕ_discrete k i));
        same_amounts = λ k c. rw e (same_set u.amounts w.amounts i b k (omega (arith, f.sizes.amounts_long)) f.same_amounts a c (ℕ_discrete k i));
      }

  filled_call : (i b : ℕ) (u : Window) → i < slots → i ≤ b → Filled i b u → Filled (suc i) (max b (suc i)) (makes (arrival (slot i)) u).window
  unfolding makes slot
  filled_call i b u l a f =
      rw (arrive_with (slot i) u f.sizes f.holding (slot_within i l)) (filled_with i b u l a f)

  filled_by : (n i b : ℕ) (u : Window) → i + n ≤ slots → i ≤ b → Filled i b u → Filled (i + n) (max b (i + n)) (leaving (writing i n) u)
  unfolding writing series leaving
  filled_by zero i b u l a f = rw (add-zero i, max-eq_left {n = b} {m = i} a) f
  filled_by (suc n) i b u l a f =
      let k : suc i + n ≡ i + suc n = omega arith in
      let m : max (max b (suc i)) (suc i + n) ≡ max b (i + suc n) = omega arith in
      let r = filled_by n (suc i) (max b (suc i)) (makes (arrival (slot i)) u).window (omega arith) (omega arith) (filled_call i b u (omega arith) a f) in
      rw (m, k) at r

leaving_append : (rs ss : List Record) (w : Window) → leaving (rs ++ ss) w ≡ leaving ss (leaving rs w)
unfolding leaving series
leaving_append [] ss w = refl
leaving_append (r ∷ rs) ss w = leaving_append rs ss (makes (arrival r) w).window

module _ (w : Window) (s : Sized w.recipes w.amounts) (h : Holds w) where
  start : Filled w s h 0 0 empty
  unfolding empty
  start =
      record {
        sizes = keeps_empty.sizes;
        holding = keeps_empty.holding;
        next_is = λ l. refl;
        next_end = λ e. absurd (omega arith);
        same_recipes = λ k l. absurd (omega arith);
        same_amounts = λ k l. absurd (omega arith);
      }

  -- all slots are as in w, and the first is the next
  whole : Filled w s h 0 slots (leaving (writing w s h 0 slots) empty)
  whole =
      let f : Filled w s h (0 + slots) (max 0 (0 + slots)) (leaving (writing w s h 0 slots) empty) = filled_by w s h slots 0 0 empty (omega arith) (omega arith) start in
      record {
        sizes = f.sizes;
        holding = f.holding;
        next_is = λ l. f.next_end (omega arith);
        next_end = λ e. absurd (omega arith);
        same_recipes = λ k l. f.same_recipes k (omega arith);
        same_amounts = λ k l. f.same_amounts k (omega arith);
      }

  records : List Record
  records = writing w s h 0 slots ++ writing w s h 0 w.next

  is_same : (u : Window) → Filled w s h w.next slots u → u ≡ w
  unfolding records_of
  is_same u f =
      let a : u.recipes ≡ w.recipes = ext_get_or 0 u.recipes w.recipes (f.sizes.recipes_long ∙ sym s.recipes_long) (λ k l. f.same_recipes k (omega (arith, f.sizes.recipes_long))) in
      let b : u.amounts ≡ w.amounts = ext_get_or 0 u.amounts w.amounts (f.sizes.amounts_long ∙ sym s.amounts_long) (λ k l. f.same_amounts k (omega (arith, f.sizes.amounts_long))) in
      let c : u.next ≡ w.next = f.next_is h.inside in
      let d : u.sum ≡ w.sum = sym f.holding.sum_is ∙ (λ i. total (newest (a i) (b i) slots (c i))) ∙ h.sum_is in
      λ i. window (a i) (b i) (c i) (d i)

  records_narrow : Narrow w.recipes → Narrow (recipes_of records)
  unfolding records
  records_narrow a =
      narrow_append (writing w s h 0 slots) (writing w s h 0 w.next) (writing_narrow w s h slots 0 a) (writing_narrow w s h w.next 0 a)

  left_by : w ≡ leaving records empty
  unfolding records
  left_by =
      let f : Filled w s h (0 + w.next) (max slots (0 + w.next)) (leaving (writing w s h 0 w.next) (leaving (writing w s h 0 slots) empty)) =
      filled_by w s h w.next 0 slots (leaving (writing w s h 0 slots) empty) (omega (arith, h.inside)) (omega arith) whole in
      let g : Filled w s h w.next slots (leaving (writing w s h 0 w.next) (leaving (writing w s h 0 slots) empty)) =
      rw (zero-add w.next, max-eq_left {n = slots} {m = w.next} (omega (arith, h.inside))) at f in
      sym (leaving_append (writing w s h 0 slots) (writing w s h 0 w.next) empty ∙ is_same _ g)

left_from : (w : Window) → sizes_fit w.recipes w.amounts ≡ true → Narrow w.recipes → held w ≡ true
    → (rs : List Record) × (Narrow (recipes_of rs) × (w ≡ series (map arrival rs) empty))
unfolding leaving
left_from w f a e =
    let s = sized w.recipes w.amounts f in
    let h = holds w e in (records w s h, (records_narrow w s h a, left_by w s h))

not_held : (w : Window) → sizes_fit w.recipes w.amounts ≡ true → Narrow w.recipes → NotFromArrivals w → held w ≡ false
not_held w f a n = go (held w) refl
  where
    go : (b : Bool) → held w ≡ b → b ≡ false
    go true e = let l = left_from w f a e in absurd (n l.0 l.1.0 l.1.1)
    go false e = refl

-- the theorem: 21 exactly for the windows that no arrivals from empty leave
pub left_exactly : (w : Window) → LeftExactly w
left_exactly w =
    record {
      left = left_from w;
      passes = λ cs e. rw e (kept_passes (series cs empty) (keeps_series cs empty [] keeps_empty));
      gives_21 = λ f a n v r.
          let h = not_held w f a n in
          (ap (λ (o : Outcome). o.reply) (sym (ask_refused v w 21 (gate_21 w f h))), ap (λ (o : Outcome). o.reply) (sym (arrive_21 r w f h)));
    }
  where
    kept_passes : (u : Window) {rs : List Record} → Keeps u rs → (sizes_fit u.recipes u.amounts ≡ true) × (held u ≡ true)
    kept_passes u k = (sizes_fit_lem u.recipes u.amounts k.sizes, is_held u k.holding)
