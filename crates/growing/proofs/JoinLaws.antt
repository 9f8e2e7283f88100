-- A call that lands, from the gate of the other houses and what is left of its own to what the call is defined to leave and answer.
use mathlib.Core.Path.{◌≡◌, sym, ap, ◌∙◌}
use Prim.Native.Nat.{ℕ}
use mathlib.Core.Bool.{Bool, true, false}
use mathlib.Core.List.{List, []}
use lib.ListN.{set}
use lib.Seq.{set-get_or}
use Rattle.model.specs.Register.{Quote}
use Rattle.model.specs.Queries.{Reply}
use Rattle.model.specs.Tables.{Tables}
use Rattle.nursery.specs.Nursery.{removals_in}
use Rattle.nursery.specs.Calls.{HouseCall, commits, grows, in_house, lands, step}
use Rattle.admission.specs.Own as own
use Rattle.admission.specs.Own.{own_step}
use Rattle.heads.specs.declared.heads.Heads.{Heads}
use Rattle.heads.specs.Meaning.{as_heads, as_removals, lent, nursery, outcome}
use Rattle.licence.specs.Gate.{opens_with, pass_others, scratch_passed}
use Rattle.licence.proofs.StepLaws.{committed_step, grown_step, joined, landed_step, own_lent}
use Rattle.licence.specs.Left.{left, put_own}
use Rattle.licence.proofs.JoinLaws.{all_left, own_is, own_given}

module _ (t t' s s' s'' : Tables) (heads heads' : Heads) (ss : List ℕ) (house limit : ℕ) (a : Reply) where
  -- what was done on the part of the house, as it is defined
  abbrev Done : HouseCall → Type 0
  Done c = (removals : ℕ) → left t' (as_heads heads') s'' [] a ≡ put_own house t (as_heads heads) (own_step limit removals c (own_given t heads s' house))

  own_done : (g : Bool) (c : HouseCall) (k m : ℕ) → opens_with limit ≡ pass_others house g (lent t heads ss s) → s' ≡ scratch_passed (lent t heads ss s) → Done c
      → as_removals heads' ≡ set (as_removals heads) house m
      → outcome t' heads' ss s'' [] a ≡ joined house (nursery t heads ss) (own_step limit k c (own_lent house (nursery t heads ss))) m
  own_done g c k m e z f r =
      all_left t t' s'' heads heads' ss [] house a (own_step limit k c (own_lent house (nursery t heads ss))) m
      (f k ∙ ap (λ (x : own.Lent). put_own house t (as_heads heads) (own_step limit k c x)) (own_is t s s' heads ss house limit g e z)) r

  -- the count of removals as it was
  kept_count : as_removals heads' ≡ as_removals heads → as_removals heads' ≡ set (as_removals heads) house (removals_in house (nursery t heads ss))
  unfolding removals_in
  kept_count r = r ∙ sym (set-get_or (as_removals heads) house 0)

  module _ (e : opens_with limit ≡ pass_others house false (lent t heads ss s)) (z : s' ≡ scratch_passed (lent t heads ss s)) (r : as_removals heads' ≡ as_removals heads) where
    -- what a land and a commit leave and answer, the other houses as they were, is what the call for the house does
    pub land_joined : (bs : List ℕ) → Done (lands bs) → outcome t' heads' ss s'' [] a ≡ step (in_house house (lands bs)) (lent t heads ss s)
    land_joined bs f =
        let k = removals_in house (nursery t heads ss) in
        own_done false (lands bs) k k e z f (kept_count r) ∙ landed_step house (lent t heads ss s) limit bs (sym e)

    pub commit_joined : (q : Quote) → Done (commits q) → outcome t' heads' ss s'' [] a ≡ step (in_house house (commits q)) (lent t heads ss s)
    commit_joined q f =
        let k = removals_in house (nursery t heads ss) in
        own_done false (commits q) k k e z f (kept_count r) ∙ committed_step house (lent t heads ss s) limit q (sym e)

  -- so is what a grow does, with the count of removals back at 0
  pub grow_joined : opens_with limit ≡ pass_others house true (lent t heads ss s) → s' ≡ scratch_passed (lent t heads ss s) → as_removals heads' ≡ set (as_removals heads) house 0
      → (bs : List ℕ) → Done (grows bs) → outcome t' heads' ss s'' [] a ≡ step (in_house house (grows bs)) (lent t heads ss s)
  grow_joined e z r bs f = own_done true (grows bs) 0 0 e z f r ∙ grown_step house (lent t heads ss s) limit 0 bs (sym e)
