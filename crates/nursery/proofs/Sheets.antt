-- Document 02, S-10: "landing in one house alters no sheet of another", whatever is lent: after a call for one house that nothing barred, nothing
-- bars a question about another, and it is answered from what was there.
use mathlib.Core.Path.{◌≡◌, refl, sym, ap, ◌∙◌, subst}
use mathlib.Core.Logic.{◌≢◌}
use Prim.Native.Nat.{ℕ, ◌<◌}
use native.Mathlib.Decide.{ℕ_discrete}
use mathlib.Core.Bool.{Bool, true, false}
use mathlib.Core.List.{List}
use mathlib.Core.Option.{Option, none, some, none-ne-some}
use lib.ListN.{length}
use borrow.Author.Tests.{le-ltb, lt-ltb}
use Rattle.model.specs.Basics.{up_to}
use Rattle.model.specs.Register.{Register}
use Rattle.model.specs.Tables.{Tables, fits, held, tables_of}
use Rattle.model.specs.Calls.{Ask, answer}
use Rattle.theory.proofs.Registers.Kept.{kept_held}
use Rattle.theory.proofs.Registers.Reachable.{kept}
use Rattle.nursery.specs.Licence.{houses, licence, overfull}
use Rattle.nursery.specs.Nursery.{Nursery, house_in, put_in, register_in, stored_in}
use Rattle.nursery.specs.Calls.{Effect, HouseCall, Lent, Outcome, all_fit, any_damaged, asks, barred, brings_eight, edges_but, effect, grown_by, grows, in_house, not_grown, nursery_fits, out_of_place, own_of, step}
use Rattle.nursery.specs.Series.{asked_of, makes}
use Rattle.nursery.proofs.Parts.{house_sized, one_house, sized_fits}
use Rattle.nursery.proofs.InSeries.{NoQuote, answer_same}
use Rattle.nursery.proofs.Gate.{Open, frame, is_open, left_reachable, open_inside, step_effect, stored_put}
use Rattle.nursery.proofs.Damaged.{damaged_where, in_range, not_own}
use Rattle.nursery.proofs.OnLicence.{reserved_after}

not_grown_lem : (h g : ℕ) (c : HouseCall) → g ≢ h → (bs : List ℕ) → in_house h c ≢ in_house g (grows bs)
not_grown_lem h g c d bs e = d cc

register_same : (g : ℕ) (n n' : Nursery) → stored_in g n' ≡ stored_in g n → register_in g n' ≡ register_in g n
unfolding register_in
register_same g n n' e = go (held (stored_in g n)) refl
  where
    go : (o : Option Register) → held (stored_in g n) ≡ o → register_in g n' ≡ register_in g n
    go (some r) q = let q' : held (stored_in g n') ≡ some r = ap held e ∙ q in rw (q, q', register_in)
    go none q = let q' : held (stored_in g n') ≡ none = ap held e ∙ q in rw (q, q', register_in)

module _ (h : ℕ) (c : HouseCall) (l : Lent) (heads : length l.nursery.heads ≡ houses) (e : barred (in_house h c) l ≡ none) where
  abbrev n : Nursery
  n = l.nursery

  abbrev left : Nursery
  left = (step (in_house h c) l).lent.nursery

  abbrev x : Effect
  x = effect c (house_in h l.nursery)

  open_call : Open (in_house h c) l
  open_call = is_open (in_house h c) l e

  inside : h < houses
  inside = open_inside h c l open_call

  left_is : (step (in_house h c) l).lent.nursery ≡ put_in h x.leaves x.removals n
  left_is = ap (λ (o : Outcome). o.lent.nursery) (step_effect h c l x e refl)

  own_held : held (stored_in h left) ≡ some x.leaves
  own_held =
      let r = left_reachable h c n in
      ap (λ (m : Nursery). held (stored_in h m)) left_is
      ∙ ap held (stored_put h x.leaves x.removals n inside heads open_call.sized r)
      ∙ kept_held x.leaves (kept x.leaves r)

  other_held : (g : ℕ) → g < houses → g ≢ h → held (stored_in g left) ≡ some (register_in g n)
  other_held g m d =
      ap held (frame h c l g d).stored_same ∙ open_call.held_all g m (not_own (in_house h c) g (not_grown_lem h g c d))

  all_held : (g : ℕ) → g < houses → held (stored_in g left) ≢ none
  all_held g m z = go (ℕ_discrete g h)
    where
      go : Dec (g ≡ h) → ⊥
      go (yes q) = none-ne-some x.leaves (sym (subst (λ (k : ℕ). held (stored_in k left) ≡ none) q z) ∙ own_held)
      go (no d) = none-ne-some (register_in g n) (sym z ∙ other_held g m d)

  none_damaged : any_damaged none left (up_to houses) ≡ false
  unfolding up_to
  none_damaged = go (any_damaged none left (up_to houses)) refl
    where
      go : (b : Bool) → any_damaged none left (up_to houses) ≡ b → any_damaged none left (up_to houses) ≡ false
      go false q = q
      go true q = let f = damaged_where none left (up_to houses) q in absurd (all_held f.0 (in_range 0 houses f.0 f.1) f.3)

  fits_left : nursery_fits left ≡ true
  unfolding put_in
  fits_left =
      ap nursery_fits left_is
      ∙ sized_fits (put_in h x.leaves x.removals n)
      (house_sized h (tables_of x.leaves) n.tables inside (one_house x.leaves (left_reachable h c n)) open_call.sized)
      open_call.eight_shares

  free : (g : ℕ) → g < houses → (scratch : Tables) → fits scratch ≡ true → (q : Ask) → barred (in_house g (asks q)) (record { nursery = left; scratch = scratch }) ≡ none
  unfolding barred all_fit brings_eight not_grown overfull own_of grown_by edges_but out_of_place
  free g m scratch f q = rw (fits_left, f, none_damaged, le-ltb licence _ (reserved_after h c l heads e), lt-ltb g houses m)

  -- any question but a quote, which hangs on what the others have landed
  pub sheets_stay : (g : ℕ) → g < houses → g ≢ h → (scratch : Tables) → fits scratch ≡ true → (q : Ask) → NoQuote q
      → asked_of g scratch (step (in_house h c) l).lent.nursery q ≡ answer q (house_in g l.nursery)
  unfolding asked_of makes effect house_in
  sheets_stay g m d scratch f q u =
      let w = frame h c l g d in
      ap (λ (o : Outcome). record { slice = o.slice; reply = o.reply }) (step_effect g (asks q) (record { nursery = left; scratch = scratch }) _ (free g m scratch f q) refl)
      ∙ answer_same q (house_in g left) (house_in g n) u (register_same g n left w.stored_same) w.removals_same
