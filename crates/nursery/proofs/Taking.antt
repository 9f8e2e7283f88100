-- Document 02, S-11, of the calls, whatever they are lent: a removal that is reported leaves what landing the remaining pipes leaves, counted
-- and told; one that is refused leaves all as it was.
use mathlib.Core.Path.{◌≡◌, refl, sym, ap, ◌∙◌, subst}
use mathlib.Core.Logic.{◌≢◌, ◌⊎◌, inl, inr}
use Prim.Native.Nat.{ℕ, ◌+◌, ◌≤◌, ◌<◌}
use native.Mathlib.Omega.{arith}
use mathlib.Core.List.{List}
use mathlib.Core.Option.{Option, none, some}
use lib.ListN.{length}
use Rattle.model.specs.Basics.{in_front}
use Rattle.model.specs.Register.{Register}
use Rattle.model.specs.Queries.{refuses, reported}
use Rattle.model.specs.Tables.{cleared, held, stored_of}
use Rattle.model.specs.Calls.{House}
use Rattle.theory.proofs.Registers.Kept.{kept_held}
use Rattle.theory.proofs.Registers.Reachable.{founded, kept}
use Rattle.nursery.specs.Licence.{houses}
use Rattle.nursery.specs.Removal.{Change, Removed, change_numbers, kept_with, max_removals, remove, removed}
use Rattle.nursery.specs.Nursery.{Nursery, house_in, put_in, register_in, removals_in, stored_in}
use Rattle.nursery.specs.Calls.{Lent, Outcome, barred, effect, grown_by, in_house, is_own, lent_slice, own_of, remove_effect, removes, own_slice, step}
use Rattle.nursery.specs.Notions.{TakenOut}
use Rattle.nursery.proofs.Removal.{KeptFor, RemovalIs, RemovedOf, removal_is, taken_out}
use Rattle.nursery.proofs.Gate.{Open, is_open, open_inside, put_same, register_reachable, removals_put, step_barred, step_effect, stored_put}

-- from house h without edge d, with so many vertices reported
pub record RemovedAs (h d : ℕ) (slice : List ℕ) (n : Nursery) (o : Outcome) (k : ℕ) : Type 0 where
  pub before : Register
  pub after : Register
  pub changes : List Change
  pub held_before : held (stored_in h n) ≡ some before
  pub taken : TakenOut before d after changes
  pub stored_after : stored_in h o.lent.nursery ≡ stored_of after
  pub held_after : held (stored_in h o.lent.nursery) ≡ some after
  -- "The register gains a 32-bit count of removals"
  pub counted : removals_in h o.lent.nursery ≡ removals_in h n + 1
  pub room_to_count : removals_in h n < max_removals
  -- the report in front of the slice, which has room for it, the rest of it untouched
  pub room_to_tell : length (change_numbers changes) ≤ length slice
  pub told : k ≡ length changes
  pub slice_is : o.slice ≡ in_front (change_numbers changes) slice

not_reported : (x k : ℕ) → refuses x ≢ reported k
not_reported x k e = let z : ◌≡◌ {A = ℕ} 0 1 = cc in omega arith

reported_is : (m k : ℕ) → reported m ≡ reported k → m ≡ k
reported_is m k e = cc

module _ (h d : ℕ) (slice : List ℕ) (l : Lent) where
  abbrev n : Nursery
  n = l.nursery

  abbrev s : House
  s = house_in h n

  -- what the call comes to
  removes_as : barred (in_house h (removes d slice)) l ≡ none → (x : Removed) → remove s d (length slice) ≡ x
      → let e = remove_effect s slice x in step (in_house h (removes d slice)) l
      ≡ record { lent = record { nursery = put_in h e.leaves e.removals n; scratch = cleared }; slice = e.slice; reply = e.reply }
  unfolding effect
  removes_as e x q = step_effect h (removes d slice) l (remove_effect s slice x) e (ap (remove_effect s slice) q)

  -- a removal that is reported took the edge out, was counted, and told what it changed
  pub reported_as : length l.nursery.heads ≡ houses → length l.nursery.removals ≡ houses → (k : ℕ)
      → (step (in_house h (removes d slice)) l).reply ≡ reported k → RemovedAs h d slice l.nursery (step (in_house h (removes d slice)) l) k
  unfolding remove_effect own_of grown_by is_own house_in
  reported_as heads counts k w = go (barred (in_house h (removes d slice)) l) refl
    where
      Goal : Type 0
      Goal = RemovedAs h d slice l.nursery (step (in_house h (removes d slice)) l) k

      by_removal : (o : Open (in_house h (removes d slice)) l) → barred (in_house h (removes d slice)) l ≡ none → (x : Removed) → remove s d (length slice) ≡ x → Goal
      by_removal o e (kept_with x) q = absurd (not_reported x k (sym (ap (λ (p : Outcome). p.reply) (removes_as e (kept_with x) q)) ∙ w))
      by_removal o e (removed r cs) q =
          let is = removes_as e (removed r cs) q in
          let i = open_inside h (removes d slice) l o in
          let t = taken_out s (register_reachable h n) d (length slice) r cs q in
          let counted : RemovedOf s d (length slice) r cs = subst (RemovalIs s d (length slice)) q (removal_is s (founded s.register (register_reachable h n)) d (length slice)) in
          let stored : stored_in h (step (in_house h (removes d slice)) l).lent.nursery ≡ stored_of r =
          ap (λ (p : Outcome). stored_in h p.lent.nursery) is ∙ stored_put h r (s.removals + 1) n i heads o.sized t.reachable in
          record {
            before = register_in h n;
            after = r;
            changes = cs;
            held_before = o.held_all h i refl;
            taken = t;
            stored_after = stored;
            held_after = ap held stored ∙ kept_held r (kept r t.reachable);
            counted = ap (λ (p : Outcome). removals_in h p.lent.nursery) is ∙ removals_put h r (s.removals + 1) n (omega (arith, i, counts));
            room_to_count = counted.room_to_count;
            room_to_tell = counted.room_to_tell;
            told = sym (reported_is (length cs) k (sym (ap (λ (p : Outcome). p.reply) is) ∙ w));
            slice_is = ap (λ (p : Outcome). p.slice) is;
          }

      go : (x : Option ℕ) → barred (in_house h (removes d slice)) l ≡ x → Goal
      go (some x) e = absurd (not_reported x k (sym (ap (λ (p : Outcome). p.reply) (step_barred (in_house h (removes d slice)) l x e)) ∙ w))
      go none e = by_removal (is_open (in_house h (removes d slice)) l e) e (remove s d (length slice)) refl

  -- any other is refused: with 25, 21 or 37, or else with 38, or else with 9, where their grounds hold
  pub refused_for : ((k : ℕ) → (step (in_house h (removes d slice)) l).reply ≢ reported k)
      → (x : ℕ) × ((step (in_house h (removes d slice)) l).reply ≡ refuses x)
      × ((barred (in_house h (removes d slice)) l ≡ some x) ⊎ ((barred (in_house h (removes d slice)) l ≡ none) × KeptFor (house_in h l.nursery) d (length slice) x))
  unfolding remove_effect house_in
  refused_for w = go (barred (in_house h (removes d slice)) l) refl
    where
      Goal : Type 0
      Goal = (x : ℕ) × ((step (in_house h (removes d slice)) l).reply ≡ refuses x)
          × ((barred (in_house h (removes d slice)) l ≡ some x) ⊎ ((barred (in_house h (removes d slice)) l ≡ none) × KeptFor (house_in h l.nursery) d (length slice) x))

      by_removal : barred (in_house h (removes d slice)) l ≡ none → (x : Removed) → remove s d (length slice) ≡ x → Goal
      by_removal e (removed r cs) q = absurd (w (length cs) (ap (λ (p : Outcome). p.reply) (removes_as e (removed r cs) q)))
      by_removal e (kept_with x) q = (
        x,
        ap (λ (p : Outcome). p.reply) (removes_as e (kept_with x) q),
        inr (e, subst (RemovalIs s d (length slice)) q (removal_is s (founded s.register (register_reachable h n)) d (length slice))),
      )

      go : (x : Option ℕ) → barred (in_house h (removes d slice)) l ≡ x → Goal
      go (some x) e = (x, ap (λ (p : Outcome). p.reply) (step_barred (in_house h (removes d slice)) l x e), inl e)
      go none e = by_removal e (remove s d (length slice)) refl

  -- "38 .., then 9 for a short answer slice, nothing changed": nor is anything by 25, 21 or 37
  pub refused_keeps : ((k : ℕ) → (step (in_house h (removes d slice)) l).reply ≢ reported k)
      → ((step (in_house h (removes d slice)) l).lent.nursery ≡ l.nursery) × ((step (in_house h (removes d slice)) l).slice ≡ slice)
  unfolding remove_effect own_of grown_by is_own house_in lent_slice own_slice
  refused_keeps w = go (barred (in_house h (removes d slice)) l) refl
    where
      Goal : Type 0
      Goal = ((step (in_house h (removes d slice)) l).lent.nursery ≡ l.nursery) × ((step (in_house h (removes d slice)) l).slice ≡ slice)

      by_removal : barred (in_house h (removes d slice)) l ≡ none → (x : Removed) → remove s d (length slice) ≡ x → Goal
      by_removal e (removed r cs) q = absurd (w (length cs) (ap (λ (p : Outcome). p.reply) (removes_as e (removed r cs) q)))
      by_removal e (kept_with x) q =
          let is = removes_as e (kept_with x) q in
          let o = is_open (in_house h (removes d slice)) l e in (
            ap (λ (p : Outcome). p.lent.nursery) is ∙ put_same h n (register_in h n) (o.held_all h (open_inside h (removes d slice) l o) refl),
            ap (λ (p : Outcome). p.slice) is,
          )

      go : (x : Option ℕ) → barred (in_house h (removes d slice)) l ≡ x → Goal
      go (some x) e =
          let is = step_barred (in_house h (removes d slice)) l x e in
          (ap (λ (p : Outcome). p.lent.nursery) is, ap (λ (p : Outcome). p.slice) is)
      go none e = by_removal e (remove s d (length slice)) refl
