-- A remove, from the gate of the other houses and what is left of its own to what the call is defined to leave and answer.
use Rattle.counters.specs.declared.refusals.Refusal.{Refusal}
use Rattle.std.specs.Prelude.{Result, Ok, Err}
use mathlib.Core.Path.{◌≡◌, sym, ap, ◌∙◌}
use Prim.Native.Nat.{ℕ, ◌+◌, ◌<◌}
use native.Mathlib.Omega.{arith}
use mathlib.Core.Bool.{false}
use mathlib.Core.List.{List}
use lib.ListN.{get_or, set}
use Rattle.model.specs.Queries.{refuses, reported}
use Rattle.model.specs.Tables.{Tables}
use Rattle.nursery.specs.Nursery.{removals_in}
use Rattle.nursery.specs.Removal.{max_removals}
use Rattle.nursery.specs.Calls.{in_house, removes, step}
use Rattle.counters.specs.Refusals.{number_of}
use Rattle.tables.specs.Steps.{more32}
use Rattle.admission.specs.Own as own
use Rattle.admission.specs.Own.{own_step}
use Rattle.heads.specs.declared.heads.Heads.{Heads}
use Rattle.heads.specs.Meaning.{as_heads, as_removals, lent, nursery, outcome}
use Rattle.licence.specs.Gate.{PassedAs, opens_with, pass_others, scratch_passed}
use Rattle.licence.proofs.StepLaws.{own_lent, removed_room, removed_step, unremoved_step}
use Rattle.settling.specs.Meaning.{removed_reply}
use Rattle.licence.specs.Left.{Left, left, put_own}
use Rattle.licence.proofs.JoinLaws.{all_left, own_is, own_given}
use Rattle.taking.specs.Counting.{count_after}

one_more : (k : ℕ) → k < max_removals → more32 k ≡ k + 1
unfolding more32
one_more k h = omega arith

-- the gate, of the register as it was viewed
pub viewed : (v t : Tables) (heads : Heads) (ss : List ℕ) (s s' : Tables) (house : ℕ) (p : PassedAs) → v ≡ t
    → (p ≡ pass_others house false (lent v heads ss s)) × (s' ≡ scratch_passed (lent v heads ss s))
    → (p ≡ pass_others house false (lent t heads ss s)) × (s' ≡ scratch_passed (lent t heads ss s))
viewed v t heads ss s s' house p e h = rw (← e) h

module _ (t t' s s' s'' : Tables) (heads heads' : Heads) (ss xs ys : List ℕ) (house limit d : ℕ)
    (e : opens_with limit ≡ pass_others house false (lent t heads ss s)) (z : s' ≡ scratch_passed (lent t heads ss s)) where
  abbrev count : ℕ
  count = get_or (as_removals heads) house 0

  abbrev done : own.Outcome
  done = own_step limit count (removes d xs) (own_lent house (nursery t heads ss))

  pub remove_joined : (a : Result ℕ Refusal) → left t' (as_heads heads') s'' ys (removed_reply a) ≡ put_own house t (as_heads heads) (own_step limit count (removes d xs) (own_given t heads s' house))
      → as_removals heads' ≡ set (as_removals heads) house (count_after a count)
      → outcome t' heads' ss s'' ys (removed_reply a) ≡ step (in_house house (removes d xs)) (lent t heads ss s)
  unfolding removals_in put_own
  remove_joined (Ok n) f r =
      let f' : left t' (as_heads heads') s'' ys (reported n) ≡ put_own house t (as_heads heads) done = f ∙ ap (λ (x : own.Lent). put_own house t (as_heads heads) (own_step limit count (removes d xs) x)) (own_is t s s' heads ss house limit false e z) in
      let q : done.reply ≡ reported n = sym (ap (λ (x : Left). x.reply) f') in
      let m : more32 count ≡ count + 1 = one_more count (removed_room house (lent t heads ss s) limit d xs (sym e) n q) in
      all_left t t' s'' heads heads' ss ys house (reported n) done (count + 1) f' (r ∙ ap (set (as_removals heads) house) m) ∙ removed_step house (lent t heads ss s) limit d xs (sym e) n q
  remove_joined (Err x) f r =
      let f' : left t' (as_heads heads') s'' ys (refuses (number_of x)) ≡ put_own house t (as_heads heads) done = f ∙ ap (λ (x : own.Lent). put_own house t (as_heads heads) (own_step limit count (removes d xs) x)) (own_is t s s' heads ss house limit false e z) in
      let q : done.reply ≡ refuses (number_of x) = sym (ap (λ (x : Left). x.reply) f') in
      all_left t t' s'' heads heads' ss ys house (refuses (number_of x)) done count f' r ∙ unremoved_step house (lent t heads ss s) limit d xs (sym e) (number_of x) q
