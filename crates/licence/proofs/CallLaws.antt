-- A call for a house, from the gate of the others to what its part of the tables comes to.
use mathlib.Core.Path.{◌≡◌, sym, ap, ◌∙◌}
use Prim.Native.Nat.{ℕ, ◌+◌, ◌*◌, ◌-◌, ◌<◌}
use native.Mathlib.Omega.{arith}
use mathlib.Core.Bool.{Bool, false}
use mathlib.Core.List.{List}
use lib.ListN.{drop, get_or, take}
use Rattle.model.specs.Queries.{Reply, refuses}
use Rattle.model.specs.Tables.{Counts, Tables, no_counts}
use Rattle.model.specs.Calls.{Ask}
use Rattle.tables.specs.Meaning.{tables}
use Rattle.nursery.specs.Licence.{houses}
use Rattle.nursery.specs.Nursery.{part, removals_in, stored_in, tables_in}
use Rattle.nursery.specs.Calls.{HouseCall, asks, in_house, own_slice, step}
use Rattle.admission.specs.Own.{own_step}
use Rattle.admission.specs.Lent as own
use Rattle.heads.specs.declared.heads.Heads.{Heads}
use Rattle.heads.specs.Meaning.{as_heads, as_removals, lent, nursery, outcome}
use Rattle.heads.specs.Others.{Long}
use Rattle.licence.specs.Gate.{bars_with, opens_with, pass_others, scratch_passed}
use Rattle.licence.proofs.PassLaws.{open_known}
use Rattle.licence.proofs.StepLaws.{asked_step, is_grow, own_lent, refused_step}

-- the parts that the code cuts out are those of house h
module _ (h : ℕ) (degrees sides ends lengths volumes labels : List ℕ) where
  -- the parts, as the code cuts them out
  abbrev cut : Tables
  cut =
      tables
      (take (4096 * h + 4096 - 4096 * h) (drop (4096 * h) degrees))
      (take (8192 * h + 8192 - 8192 * h) (drop (8192 * h) sides))
      (take (8192 * h + 8192 - 8192 * h) (drop (8192 * h) ends))
      (take (4096 * h + 4096 - 4096 * h) (drop (4096 * h) lengths))
      (take (4096 * h + 4096 - 4096 * h) (drop (4096 * h) volumes))
      (take (4096 * h + 4096 - 4096 * h) (drop (4096 * h) labels))

  one : 4096 * h + 4096 - 4096 * h ≡ 4096
  one = omega arith

  two : 8192 * h + 8192 - 8192 * h ≡ 8192
  two = omega arith

  -- they are the tables of the house
  pub parts_are : cut ≡ tables_in h (tables degrees sides ends lengths volumes labels)
  unfolding tables_in part
  parts_are = rw (one, two)

-- ---- the call

module _ (t : Tables) (heads : Heads) (ss : List ℕ) (s s' : Tables) (house : ℕ) where
  -- barred before its house is looked at
  pub barred_call : (g : Bool) (c : HouseCall) (x : ℕ) → is_grow c ≡ g → bars_with x ≡ pass_others house g (lent t heads ss s) → s' ≡ scratch_passed (lent t heads ss s)
      → outcome t heads ss s' (own_slice c) (refuses x) ≡ step (in_house house c) (lent t heads ss s)
  barred_call g c x k e z =
      ap (λ (u : Tables). outcome t heads ss u (own_slice c) (refuses x)) z
      ∙ refused_step house c (lent t heads ss s) x (ap (λ (b : Bool). pass_others house b (lent t heads ss s)) k ∙ sym e)

  -- the gate of the others is open: there is this house, and the tables are so long
  pub open_house : (g : Bool) (limit : ℕ) → opens_with limit ≡ pass_others house g (lent t heads ss s) → (house < houses) × Long t
  open_house g limit e = let k = open_known t heads ss s house g limit e in (k.0, k.1)

  module _ (limit : ℕ) (e : opens_with limit ≡ pass_others house false (lent t heads ss s)) (z : s' ≡ scratch_passed (lent t heads ss s))
      (c : Counts) (w : c ≡ get_or (as_heads heads) house no_counts) where
    lent_is : own.lent (tables_in house t) c s' ≡ own_lent house (nursery t heads ss)
    unfolding stored_in
    lent_is = rw (w, z ∙ (open_known t heads ss s house false limit e).2)

    -- a question that its house has answered
    pub asked_call : (q : Ask) (s'' : Tables) (xs : List ℕ) (a : Reply)
        → own.outcome (tables_in house t) c s'' xs a ≡ own_step limit (removals_in house (nursery t heads ss)) (asks q) (own.lent (tables_in house t) c s')
        → outcome t heads ss s'' xs a ≡ step (in_house house (asks q)) (lent t heads ss s)
    asked_call q s'' xs a p =
        asked_step house (lent t heads ss s) limit q (sym e) (own.outcome (tables_in house t) c s'' xs a)
        (p ∙ ap (own_step limit (removals_in house (nursery t heads ss)) (asks q)) lent_is)

    -- and one with the count of removals that the code has read
    pub counted_call : (k : ℕ) → k ≡ get_or (as_removals heads) house 0 → (q : Ask) (s'' : Tables) (xs : List ℕ) (a : Reply)
        → own.outcome (tables_in house t) c s'' xs a ≡ own_step limit k (asks q) (own.lent (tables_in house t) c s')
        → outcome t heads ss s'' xs a ≡ step (in_house house (asks q)) (lent t heads ss s)
    unfolding removals_in
    counted_call k d q s'' xs a p = asked_call q s'' xs a (p ∙ ap (λ (x : ℕ). own_step limit x (asks q) (own.lent (tables_in house t) c s')) d)
