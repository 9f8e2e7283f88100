-- The gate of the other houses: from its tests to what it answers.
use mathlib.Core.Path.{◌≡◌, refl, sym, ap, ◌∙◌}
use mathlib.Core.Logic.{◌≢◌}
use Prim.Native.Nat.{ℕ, zero, suc, ◌+◌, ◌*◌, ◌-◌, ◌≤◌, ◌<◌, max}
use native.Mathlib.Omega.{arith}
use native.Mathlib.Decide.{dec_lt}
use native.Mathlib.Numerals.{add-one}
use mathlib.Core.Bool.{Bool, true, false, not, ◌&&◌}
use mathlib.Core.List.{List, map}
use mathlib.Core.Option.{Option, none, some}
use lib.ListN.{length, get_or, set}
use lib.Seq.{set_out}
use lib.Dec.{eqb, ltb}
use borrow.Author.Tests.{eqb-true, le-ltb, lt-ltb, ltb-true}
use Rattle.model.specs.Basics.{count_from, sum, up_to}
use Rattle.model.specs.Register.{Register}
use Rattle.model.specs.Tables.{Counts, Tables, cleared, fits, held, no_counts, right_sizes, sizes}
use Rattle.model.proofs.Basics.Booleans.{and_true}
use Rattle.theory.proofs.Registers.Equality.{eq_list_true}
use Rattle.tables.specs.Steps.{zeroed}
use Rattle.admission.proofs.SizeLaws.{zeroed_cleared}
use Rattle.nursery.specs.Licence.{houses, licence, limit_of, overfull, reserves}
use Rattle.nursery.specs.Nursery.{Nursery, edges_in, stored_in, tables_in}
use Rattle.nursery.specs.Calls.{any_damaged, edges_but, is_own, nursery_fits}
use Rattle.nursery.proofs.Licence.{put, reserves_long, whole}
use Rattle.heads.specs.declared.heads.Heads.{Heads}
use Rattle.heads.specs.Meaning.{as_heads, edges_of, lent, nursery}
use Rattle.heads.specs.Others.{Long, eight_fit, is_held, others_in, passes_in, tables_fit}
use Rattle.licence.specs.Gate.{PassedAs, bars_with, emptied, licence_in, opens_with, own_reserve, pass_others, scratch_passed}
use Rattle.heads.proofs.ReserveLaws.{edges_at_lem, eight_edges}

-- ---- what the house itself keeps

module _ (ss : List ℕ) (heads : Heads) (house : ℕ) where
  abbrev ns : List ℕ
  ns = edges_of heads

  -- a number that is none of the eight keeps nothing
  pub own_none : (grows : Bool) → 7 < house → 0 ≡ own_reserve house grows ss ns
  unfolding own_reserve
  own_none grows l = rw (le-ltb house houses (omega (arith, l)))

  -- a house that is grown counts as empty, and keeps its share
  pub own_grown : (grows : Bool) (s r : ℕ) → house ≤ 7 → grows ≡ true → s ≡ get_or ss house 0 → r ≡ max s 0 → r ≡ own_reserve house grows ss ns
  unfolding own_reserve
  own_grown grows s r l g p e = rw (lt-ltb house houses (omega (arith, l)), g, ← p) e

  -- any other keeps the larger of its share and its edges
  pub own_edges : (grows : Bool) (s r : ℕ) (own : Counts) → house ≤ 7 → grows ≡ false → s ≡ get_or ss house 0 → own ≡ get_or (as_heads heads) house no_counts
      → r ≡ max s own.edges → r ≡ own_reserve house grows ss ns
  unfolding own_reserve
  own_edges grows s r own l g p q e =
      let n : get_or ns house 0 ≡ own.edges = edges_at_lem heads house ∙ ap (λ (c : Counts). c.edges) (sym q) in
      rw (lt-ltb house houses (omega (arith, l)), g, ← p, n) e

-- ---- the sum, and the limit

module _ (ss : List ℕ) (heads : Heads) (house : ℕ) (grows : Bool) (eight : length ss ≡ houses) (others own : ℕ)
    (o : others ≡ sum (set (reserves ss (edges_of heads)) house 0)) (w : own ≡ own_reserve house grows ss (edges_of heads)) where
  abbrev es : List ℕ
  es = edges_of heads

  as_many : length ss ≡ length es
  as_many = eight ∙ sym (eight_edges heads)

  both_are : others + own ≡ sum (reserves ss (edges_but (emptied house grows) es))
  unfolding own_reserve edges_but emptied
  both_are = go (dec_lt house houses) grows refl
    where
      go : Dec (house < houses) → (b : Bool) → grows ≡ b → others + own ≡ sum (reserves ss (edges_but (emptied house grows) es))
      go (yes l) true g =
          let k : own ≡ max (get_or ss house 0) 0 = rw (lt-ltb house houses l, g) at w in
          rw g (omega (arith, k, o, put house ss es as_many (omega (arith, l, eight)) 0))
      go (yes l) false g =
          let k : own ≡ max (get_or ss house 0) (get_or es house 0) = rw (lt-ltb house houses l, g) at w in
          rw g (omega (arith, k, o, whole house ss es as_many (omega (arith, l, eight))))
      go (no l) true g =
          let k : own ≡ 0 = rw (le-ltb house houses (omega (arith, l))) at w in
          let z : sum (set (reserves ss es) house 0) ≡ sum (reserves ss es) = ap sum (set_out (reserves ss es) house 0 (omega (arith, l, eight, reserves_long ss es as_many))) in
          rw (g, set_out es house 0 (omega (arith, l, eight_edges heads))) (omega (arith, k, o, z))
      go (no l) false g =
          let k : own ≡ 0 = rw (le-ltb house houses (omega (arith, l))) at w in
          let z : sum (set (reserves ss es) house 0) ≡ sum (reserves ss es) = ap sum (set_out (reserves ss es) house 0 (omega (arith, l, eight, reserves_long ss es as_many))) in
          rw g (omega (arith, k, o, z))

  -- the sum passes the licence: the gate is barred with 21
  pub sum_passes : 4096 < others + own → bars_with 21 ≡ licence_in house grows ss es
  unfolding licence_in overfull
  sum_passes l = rw (lt-ltb licence (sum (reserves ss (edges_but (emptied house grows) es))) (omega (arith, l, both_are)))

  not_over : others + own ≤ 4096 → overfull ss (edges_but (emptied house grows) es) ≡ false
  unfolding overfull
  not_over l = le-ltb licence (sum (reserves ss (edges_but (emptied house grows) es))) (omega (arith, l, both_are))

  -- it does not, but there is no such house: 37
  pub no_house : others + own ≤ 4096 → 7 < house → bars_with 37 ≡ licence_in house grows ss es
  unfolding licence_in
  no_house l k = rw (not_over l, le-ltb house houses (omega (arith, k)))

  -- neither: the gate opens, and the limit is what the others leave of the licence
  pub limit_left : (limit : ℕ) → others + own ≤ 4096 → house ≤ 7 → limit ≡ 4096 - others → opens_with limit ≡ licence_in house grows ss es
  unfolding licence_in limit_of
  limit_left limit l k e = rw (not_over l, lt-ltb house houses (omega (arith, k)), e, o)

-- ---- the tables

-- the houses from h on, as the definition lists them
damaged_told : (t : Tables) (heads : List Counts) (ks ss : List ℕ) (house k h : ℕ)
    → any_damaged (some house) (record { tables = t; heads = heads; removals = ks; shares = ss }) (count_from h k) ≡ not (others_in t heads house k h)
unfolding any_damaged others_in count_from is_own passes_in is_held stored_in
damaged_told t heads ks ss house zero h = refl
damaged_told t heads ks ss house (suc k) h =
    go (eqb h house) refl (held (record { tables = tables_in h t; counts = get_or heads h no_counts })) refl
    (ap (λ (i : ℕ). any_damaged (some house) n (count_from i k)) (sym (add-one h)) ∙ damaged_told t heads ks ss house k (h + 1))
  where
    n : Nursery
    n = record { tables = t; heads = heads; removals = ks; shares = ss }

    go : (b : Bool) → eqb h house ≡ b → (o : Option Register) → held (record { tables = tables_in h t; counts = get_or heads h no_counts }) ≡ o
        → any_damaged (some house) n (count_from (suc h) k) ≡ not (others_in t heads house k (h + 1))
        → any_damaged (some house) n (count_from h (suc k)) ≡ not (others_in t heads house (suc k) h)
    go true e o f ih = rw (e, any_damaged, others_in, passes_in) ih
    go false e (some r) f ih = rw (e, any_damaged, others_in, passes_in, f) ih
    go false e none f ih = rw (e, any_damaged, others_in, passes_in, f)

-- tables that fit are so long
pub long_tables : (t : Tables) → tables_fit t ≡ true → Long t
unfolding tables_fit sizes right_sizes
long_tables t h =
    let e = eq_list_true (sizes t) (map (λ (k : ℕ). houses * k) right_sizes) h in (
      ap (λ (xs : List ℕ). get_or xs 0 0) e,
      ap (λ (xs : List ℕ). get_or xs 1 0) e,
      ap (λ (xs : List ℕ). get_or xs 2 0) e,
      ap (λ (xs : List ℕ). get_or xs 3 0) e,
      ap (λ (xs : List ℕ). get_or xs 4 0) e,
      ap (λ (xs : List ℕ). get_or xs 5 0) e,
    )

-- so much is known where all eight fit
pub eight_long : (t : Tables) (ss : List ℕ) → eight_fit t ss ≡ true → Long t × (length ss ≡ houses)
unfolding eight_fit
eight_long t ss f = let p = and_true (tables_fit t) (eqb (length ss) houses) f in (long_tables t p.0, eqb-true (length ss) houses p.1)

module _ (t : Tables) (heads : Heads) (ss : List ℕ) (s : Tables) where
  fit_is : nursery_fits (nursery t heads ss) ≡ eight_fit t ss
  unfolding nursery_fits eight_fit tables_fit
  fit_is = refl

  module _ (house : ℕ) (grows : Bool) where
    sizes_bar : (eight_fit t ss && fits s) ≡ false → (bars_with 25 ≡ pass_others house grows (lent t heads ss s)) × (s ≡ scratch_passed (lent t heads ss s))
    unfolding pass_others scratch_passed
    sizes_bar h = (rw (fit_is, h), rw (fit_is, h))

    pub houses_bar : false ≡ eight_fit t ss → (bars_with 25 ≡ pass_others house grows (lent t heads ss s)) × (s ≡ scratch_passed (lent t heads ss s))
    houses_bar h = sizes_bar (rw (← h))

    pub scratch_bars : eight_fit t ss ≡ true → false ≡ fits s → (bars_with 25 ≡ pass_others house grows (lent t heads ss s)) × (s ≡ scratch_passed (lent t heads ss s))
    scratch_bars h k = sizes_bar (rw (h, ← k))

    module _ (f : eight_fit t ss ≡ true) (k : fits s ≡ true) where
      cleared_is : (u : Tables) → u ≡ zeroed s → u ≡ scratch_passed (lent t heads ss s)
      unfolding scratch_passed
      cleared_is u e = rw (fit_is, f, k) (e ∙ zeroed_cleared s k)

      pub others_bar : (u : Tables) → u ≡ zeroed s → false ≡ others_in t (as_heads heads) house houses 0
          → (bars_with 21 ≡ pass_others house grows (lent t heads ss s)) × (u ≡ scratch_passed (lent t heads ss s))
      unfolding pass_others up_to
      others_bar u e h = (rw (fit_is, f, k, damaged_told t (as_heads heads) _ ss house houses 0, ← h), cleared_is u e)

      pub others_pass : (u : Tables) (p : PassedAs) → u ≡ zeroed s → others_in t (as_heads heads) house houses 0 ≡ true → p ≡ licence_in house grows ss (edges_of heads)
          → (p ≡ pass_others house grows (lent t heads ss s)) × (u ≡ scratch_passed (lent t heads ss s))
      unfolding pass_others up_to edges_in edges_of
      others_pass u p e h q = (rw (fit_is, f, k, damaged_told t (as_heads heads) _ ss house houses 0, h) q, cleared_is u e)

not_opens : (x limit : ℕ) → bars_with x ≢ opens_with limit
not_opens x limit e = let z : ◌≡◌ {A = ℕ} 0 1 = cc in omega arith

-- what an open gate shows
pub open_known : (t : Tables) (heads : Heads) (ss : List ℕ) (s : Tables) (house : ℕ) (g : Bool) (limit : ℕ) → opens_with limit ≡ pass_others house g (lent t heads ss s)
    → (house < houses) × Long t × (scratch_passed (lent t heads ss s) ≡ cleared)
unfolding pass_others licence_in scratch_passed
open_known t heads ss s house g limit e = go (eight_fit t ss) refl (fits s) refl (any_damaged (some house) (nursery t heads ss) (up_to houses)) refl
    (overfull ss (edges_but (emptied house g) (edges_in (nursery t heads ss)))) refl (ltb house houses) refl
  where
    Known : Type 0
    Known = (house < houses) × Long t × (scratch_passed (lent t heads ss s) ≡ cleared)

    go : (a : Bool) → eight_fit t ss ≡ a → (b : Bool) → fits s ≡ b → (d : Bool) → any_damaged (some house) (nursery t heads ss) (up_to houses) ≡ d
        → (o : Bool) → overfull ss (edges_but (emptied house g) (edges_in (nursery t heads ss))) ≡ o → (i : Bool) → ltb house houses ≡ i → Known
    go false p b q d r o x i y = absurd (not_opens 25 limit (sym (rw (fit_is t heads ss s, p) at e)))
    go true p false q d r o x i y = absurd (not_opens 25 limit (sym (rw (fit_is t heads ss s, p, q) at e)))
    go true p true q true r o x i y = absurd (not_opens 21 limit (sym (rw (fit_is t heads ss s, p, q, r) at e)))
    go true p true q false r true x i y = absurd (not_opens 21 limit (sym (rw (fit_is t heads ss s, p, q, r, x) at e)))
    go true p true q false r false x false y = absurd (not_opens 37 limit (sym (rw (fit_is t heads ss s, p, q, r, x, y) at e)))
    go true p true q false r false x true y = (ltb-true house houses y, (eight_long t ss p).0, rw (fit_is t heads ss s, p, q))
