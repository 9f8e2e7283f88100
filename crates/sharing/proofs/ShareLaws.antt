-- Setting the shares: from the gate, which is asked for a house that is none of the eight, to the call.
use mathlib.Core.Path.{◌≡◌, refl, sym, ap, ap₂, ◌∙◌}
use mathlib.Core.Logic.{◌≢◌}
use Prim.Native.Nat.{ℕ, ◌≤◌, ◌<◌}
use native.Mathlib.Omega.{arith}
use mathlib.Core.Bool.{Bool, true, false, ◌&&◌, ◌||◌}
use mathlib.Core.List.{List, []}
use mathlib.Core.Option.{some}
use lib.ListN.{length}
use lib.Dec.{eqb, ltb}
use borrow.Author.Tests.{eq-eqb, lt-ltb, le-ltb, ne_eqb}
use Rattle.model.specs.Basics.{sum, up_to}
use Rattle.model.specs.Queries.{Reply, allotted, refuses}
use Rattle.model.specs.Tables.{Tables, cleared, fits}
use Rattle.nursery.specs.Licence.{houses, licence, overfull}
use Rattle.nursery.specs.Nursery.{edges_in, vertices_in, with_shares}
use Rattle.nursery.specs.Calls as call
use Rattle.nursery.specs.Calls.{any_damaged, any_some, barred, edges_but, not_grown, nursery_fits, out_of_place, own_of, sets_shares, step}
use Rattle.model.proofs.Basics.Booleans.{and_true}
use Rattle.nursery.proofs.Gate.{step_barred, step_open}
use Rattle.nursery.proofs.Parts.{fits_sized}
use Rattle.heads.specs.declared.heads.Heads.{Heads}
use Rattle.heads.specs.Meaning.{lent, nursery, outcome}
use Rattle.licence.specs.Gate.{bars_with, emptied, licence_in, opens_with, pass_others, scratch_passed}
use Rattle.licence.proofs.PassLaws.{open_known}
use Rattle.licence.proofs.StepLaws.{damaged_out}
use Rattle.sharing.specs.Meaning.{Answered, allot_in, answered, vertices_of}

-- ---- 37, or the shares that are asked for

module _ (asked vertices shares : List ℕ) where
  -- more than the licence: 37, and the shares stay
  pub too_much : licence < sum asked → answered shares (refuses 37) ≡ allot_in asked vertices shares
  unfolding allot_in
  too_much l = rw (lt-ltb licence (sum asked) l)

  or_true : (b : Bool) → (b || true) ≡ true
  or_true true = refl
  or_true false = refl

  -- a house that is not empty: 37 too
  pub not_empty : true ≡ any_some vertices → answered shares (refuses 37) ≡ allot_in asked vertices shares
  unfolding allot_in
  not_empty h = rw (← h) (rw (or_true (ltb licence (sum asked))))

  -- neither: the shares are those that are asked for
  pub all_set : (us : List ℕ) → sum asked ≤ licence → any_some vertices ≡ false → us ≡ asked → answered us allotted ≡ allot_in asked vertices shares
  unfolding allot_in
  all_set us l h e = rw (le-ltb licence (sum asked) l, h) (ap (λ (x : List ℕ). answered x allotted) e)

-- ---- the gate

bars_same : (x y : ℕ) → bars_with x ≡ bars_with y → x ≡ y
bars_same x y e = cc

module _ (t : Tables) (heads : Heads) (ss : List ℕ) (s : Tables) (asked : List ℕ) where
  abbrev l : call.Lent
  l = lent t heads ss s

  -- so many shares are not asked for: 25, and nothing is written
  pub wrong_number : length asked ≢ houses → outcome t heads ss s [] (refuses 25) ≡ step (sets_shares asked) l
  unfolding call.all_fit call.brings_eight barred call.scratch_after call.lent_slice
  wrong_number d =
      let f : call.all_fit (sets_shares asked) l ≡ false = and_false (nursery_fits (nursery t heads ss) && fits s) (eqb (length asked) houses) (ne_eqb (length asked) houses d) in
      sym (step_barred (sets_shares asked) l 25 (rw f) ∙ rw f)
    where
      and_false : (a b : Bool) → b ≡ false → (a && b) ≡ false
      and_false true b e = e
      and_false false b e = refl

  module _ (eight : length asked ≡ houses) where
    and_right : (b : Bool) → (b && true) ≡ b
    and_right true = refl
    and_right false = refl

    fit_is : call.all_fit (sets_shares asked) l ≡ (nursery_fits (nursery t heads ss) && fits s)
    unfolding call.all_fit call.brings_eight
    fit_is = rw (eq-eqb (length asked) houses eight) (and_right (nursery_fits (nursery t heads ss) && fits s))

    scratch_is : call.scratch_after (sets_shares asked) l ≡ scratch_passed l
    unfolding call.scratch_after scratch_passed
    scratch_is = rw fit_is

    -- all eight were looked at
    grown_is : not_grown (own_of (sets_shares asked)) (nursery t heads ss)
        ≡ (any_damaged (some houses) (nursery t heads ss) (up_to houses) || overfull ss (edges_but (emptied houses false) (edges_in (nursery t heads ss))))
    unfolding not_grown own_of emptied up_to
    grown_is = rw (damaged_out (nursery t heads ss) houses 0 houses (omega arith))

    -- what the gate of the others bars with, but for 37, bars the call
    pub gate_bars : (x : ℕ) (s' : Tables) → bars_with x ≡ pass_others houses false l → x ≢ 37 → s' ≡ scratch_passed l
        → outcome t heads ss s' [] (refuses x) ≡ step (sets_shares asked) l
    unfolding pass_others licence_in barred call.lent_slice
    gate_bars x s' e d z =
        ap (λ (u : Tables). outcome t heads ss u [] (refuses x)) (z ∙ sym scratch_is) ∙ sym (step_barred (sets_shares asked) l x bars)
      where
        bars : barred (sets_shares asked) l ≡ some x
        bars = go (nursery_fits (nursery t heads ss) && fits s) refl (any_damaged (some houses) (nursery t heads ss) (up_to houses)) refl
            (overfull ss (edges_but (emptied houses false) (edges_in (nursery t heads ss)))) refl
          where
            go : (a : Bool) → (nursery_fits (nursery t heads ss) && fits s) ≡ a → (b : Bool) → any_damaged (some houses) (nursery t heads ss) (up_to houses) ≡ b
                → (o : Bool) → overfull ss (edges_but (emptied houses false) (edges_in (nursery t heads ss))) ≡ o → barred (sets_shares asked) l ≡ some x
            go false p b q o r = rw (fit_is, p) (ap (λ (y : ℕ). some y) (sym (bars_same x 25 (rw p at e))))
            go true p true q o r = rw (fit_is, p, grown_is, q) (ap (λ (y : ℕ). some y) (sym (bars_same x 21 (rw (p, q) at e))))
            go true p false q true r = rw (fit_is, p, grown_is, q, r) (ap (λ (y : ℕ). some y) (sym (bars_same x 21 (rw (p, q, r) at e))))
            go true p false q false r = absurd (d (bars_same x 37 (rw (p, q, r) at e)))

    -- nothing else bars it: so all eight fit, hold registers, and are within the licence
    record Passed : Type 0 where
      fit : (nursery_fits (nursery t heads ss) && fits s) ≡ true
      grown : not_grown (own_of (sets_shares asked)) (nursery t heads ss) ≡ false

    passed : bars_with 37 ≡ pass_others houses false l → Passed
    unfolding pass_others licence_in
    passed e = go (nursery_fits (nursery t heads ss) && fits s) refl (any_damaged (some houses) (nursery t heads ss) (up_to houses)) refl
        (overfull ss (edges_but (emptied houses false) (edges_in (nursery t heads ss)))) refl
      where
        other : (x : ℕ) → 37 ≡ x → x < 37 → ⊥
        other x q k = omega arith

        go : (a : Bool) → (nursery_fits (nursery t heads ss) && fits s) ≡ a → (b : Bool) → any_damaged (some houses) (nursery t heads ss) (up_to houses) ≡ b
            → (o : Bool) → overfull ss (edges_but (emptied houses false) (edges_in (nursery t heads ss))) ≡ o → Passed
        go false p b q o r = absurd (other 25 (bars_same 37 25 (rw p at e)) (omega arith))
        go true p true q o r = absurd (other 21 (bars_same 37 21 (rw (p, q) at e)) (omega arith))
        go true p false q true r = absurd (other 21 (bars_same 37 21 (rw (p, q, r) at e)) (omega arith))
        go true p false q false r = record { fit = p; grown = grown_is ∙ rw (q, r) }

    -- so the shares that stand are eight
    pub eight_shares : bars_with 37 ≡ pass_others houses false l → length ss ≡ houses
    eight_shares e = (fits_sized (nursery t heads ss) (and_true (nursery_fits (nursery t heads ss)) (fits s) (passed e).fit).0).1

    -- then 37 or the shares
    pub shares_done : (s' : Tables) (us : List ℕ) (a : Reply) → bars_with 37 ≡ pass_others houses false l → s' ≡ scratch_passed l
        → answered us a ≡ allot_in asked (vertices_of heads) ss → outcome t heads us s' [] a ≡ step (sets_shares asked) l
    unfolding barred out_of_place allot_in vertices_of vertices_in call.lent_slice call.does with_shares scratch_passed
    shares_done s' us a e z q = go (ltb licence (sum asked) || any_some (vertices_of heads)) refl
      where
        k : Passed
        k = passed e

        u : s' ≡ cleared
        u = z ∙ rw k.fit

        go : (o : Bool) → (ltb licence (sum asked) || any_some (vertices_of heads)) ≡ o → outcome t heads us s' [] a ≡ step (sets_shares asked) l
        go true o =
            let w : answered us a ≡ answered ss (refuses 37) = rw o at q in
            ap₂ (λ (x : Answered) (v : Tables). outcome t heads x.shares v [] x.reply) w (z ∙ sym scratch_is)
            ∙ sym (step_barred (sets_shares asked) l 37 (rw (fit_is, k.fit, k.grown, o)))
        go false o =
            let w : answered us a ≡ answered asked allotted = rw o at q in
            ap₂ (λ (x : Answered) (v : Tables). outcome t heads x.shares v [] x.reply) w u
            ∙ sym (step_open (sets_shares asked) l (rw (fit_is, k.fit, k.grown, o)))

  -- the gate is never open for a house that is none
  pub never_open : (limit : ℕ) → opens_with limit ≡ pass_others houses false l → ⊥
  never_open limit e = let k = open_known t heads ss s houses false limit e in omega (arith, k.0)
