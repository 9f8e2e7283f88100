-- Document 02, S-6 and S-11: a call that does not clear a house leaves the vertices and edges that were there, lands more behind them, and
-- leaves the count of removals. Without a grow that count never falls, and a removal raises it.
use Rattle.std.specs.Prelude.{if◌then◌else◌}
use mathlib.Core.Path.{◌≡◌, refl, sym, ap, ◌∙◌, subst}
use mathlib.Core.Logic.{inl, inr}
use Prim.Native.Nat.{ℕ, ◌+◌, ◌≤◌, ◌<◌}
use native.Mathlib.Omega.{arith}
use native.Mathlib.Decide.{ℕ_discrete}
use mathlib.Core.Bool.{Bool, true, false}
use mathlib.Core.List.{List, [], ◌∷◌}
use lib.ListN.{length}
use lib.Seq.{get_or-set_same}
use Rattle.model.specs.Register.{Landed, Quote, Register, commit, landed, refused}
use Rattle.model.specs.Calls.{House}
use Rattle.model.specs.Notions.{LandedSince}
use Rattle.theory.proofs.Series.Onwards.{since_both, since_commit, since_list, since_none}
use Rattle.nursery.specs.Licence.{houses}
use Rattle.nursery.specs.Removal.{Change, Removed, kept_with, remove, removed}
use Rattle.nursery.specs.Nursery.{Nursery}
use Rattle.nursery.specs.Calls.{Call, HouseCall, asks, commit_effect, commits, effect, grows, in_house, lands, read_effect, remove_effect, removes, sets_shares}
use Rattle.nursery.specs.Series.{Made, Site, admitted, after, after_call, house_at, makes, put_at, register_at, removals_at, settles, shared_out}
use Rattle.nursery.proofs.State.{Holds, Sound}
use Rattle.nursery.proofs.Kept.{call_does, register_other, register_put, removals_other}
use Rattle.nursery.proofs.Clearing.{Clears, Grows, NoneClears, Removes}

-- ---- what a call does to its own house

-- the register has landed more, and the count is the same
record Goes (r : Register) (k : ℕ) (r' : Register) (k' : ℕ) : Type 0 where
  since : LandedSince r r'
  count : k' ≡ k

goes_none : (r : Register) (k : ℕ) → Goes r k r k
goes_none r k = record { since = since_none r; count = refl }

-- no grow, and no removal that is not refused
abbrev Quiet : HouseCall → House → Type 0
Quiet c s = ((bs : List ℕ) → c ≡ grows bs → ⊥)
    × ((d : ℕ) (slice : List ℕ) (r : Register) (cs : List Change) → c ≡ removes d slice → remove s d (length slice) ≡ removed r cs → ⊥)

commit_goes : (q : Quote) (s : House) (l : Landed) → commit s.limit s.register q ≡ l
    → Goes s.register s.removals (commit_effect s l).leaves (commit_effect s l).removals
unfolding commit_effect
commit_goes q s (landed r) e = record { since = since_commit s.limit q s.register r e; count = refl }
commit_goes q s (refused x) e = goes_none s.register s.removals

effect_goes : (c : HouseCall) (s : House) → Quiet c s → Goes s.register s.removals (effect c s).leaves (effect c s).removals
unfolding effect read_effect remove_effect
effect_goes (grows bs) s w = absurd (w.0 bs refl)
effect_goes (lands bs) s w = record { since = since_list s.limit s.register bs; count = refl }
effect_goes (commits q) s w = commit_goes q s (commit s.limit s.register q) refl
effect_goes (removes d slice) s w = go (remove s d (length slice)) refl
  where
    go : (x : Removed) → remove s d (length slice) ≡ x
        → Goes s.register s.removals (remove_effect s slice x).leaves (remove_effect s slice x).removals
    go (removed r cs) q = absurd (w.1 d slice r cs refl q)
    go (kept_with x) q = goes_none s.register s.removals
effect_goes (asks q) s w = goes_none s.register s.removals

-- without a grow the count never falls
effect_count : (c : HouseCall) (s : House) → ((bs : List ℕ) → c ≡ grows bs → ⊥) → s.removals ≤ (effect c s).removals
unfolding effect read_effect commit_effect remove_effect
effect_count (grows bs) s w = absurd (w bs refl)
effect_count (lands bs) s w = omega arith
effect_count (commits q) s w = go (commit s.limit s.register q)
  where
    go : (l : Landed) → s.removals ≤ (commit_effect s l).removals
    go (landed r) = omega arith
    go (refused x) = omega arith
effect_count (removes d slice) s w = go (remove s d (length slice))
  where
    go : (x : Removed) → s.removals ≤ (remove_effect s slice x).removals
    go (removed r cs) = omega arith
    go (kept_with x) = omega arith
effect_count (asks q) s w = omega arith

-- ---- what a call does to house h

-- house h has landed more, and its count of removals is the same
pub record Onwards (h : ℕ) (s s' : Site) : Type 0 where
  pub landed_since : LandedSince (register_at h s) (register_at h s')
  pub count_stays : removals_at h s' ≡ removals_at h s

onwards_none : (h : ℕ) (s : Site) → Onwards h s s
onwards_none h s = record { landed_since = since_none (register_at h s); count_stays = refl }

onwards_both : {h : ℕ} {q r s : Site} → Onwards h q r → Onwards h r s → Onwards h q s
onwards_both a b = record { landed_since = since_both a.landed_since b.landed_since; count_stays = b.count_stays ∙ a.count_stays }

removals_put : (h : ℕ) (r : Register) (k : ℕ) (s : Site) → h < length s.removals → removals_at h (put_at h r k s) ≡ k
unfolding removals_at put_at
removals_put h r k s l = get_or-set_same s.removals h k 0 l

module _ (h : ℕ) (l : h < houses) (s : Site) (o : Sound s) where
  here : h < length s.registers
  here = omega (arith, o.eight, l)

  here_too : h < length s.removals
  here_too = omega (arith, o.eight_removals, l)

  -- what holds of the house as it was, and of what each call for it leaves, holds of it after any call
  module _ (m : Made) (P : Register → ℕ → Type 0) (was : P (register_at h s) (removals_at h s))
      (own : (c : HouseCall) → m.call ≡ in_house h c → admitted m s ≡ true → P (effect c (house_at h s)).leaves (effect c (house_at h s)).removals) where
    abbrev At : Site → Type 0
    At t = P (register_at h t) (removals_at h t)

    at_put : (r : Register) (k : ℕ) → P r k → At (put_at h r k s)
    at_put r k p = rw (register_put h r k s here, removals_put h r k s here_too) p

    at_house : (g : ℕ) (c : HouseCall) → m.call ≡ in_house g c → admitted m s ≡ true → Dec (h ≡ g) → At (settles (in_house g c) s)
    unfolding settles
    at_house g c e f (no d) = rw (register_other h g _ _ s d, removals_other h g _ _ s d) was
    at_house g c e f (yes z) =
        subst (λ (i : ℕ). At (settles (in_house i c) s)) z (at_put _ _ (own c (e ∙ ap (λ (i : ℕ). in_house i c) (sym z)) f))

    at_shares : (shares : List ℕ) → At (settles (sets_shares shares) s)
    unfolding settles shared_out register_at removals_at
    at_shares shares = was

    at_call : At (after_call m s)
    unfolding after_call
    at_call = go (admitted m s) refl m.call refl
      where
        one : (c : Call) → m.call ≡ c → admitted m s ≡ true → At (settles c s)
        one (in_house g c) e f = at_house g c e f (ℕ_discrete h g)
        one (sets_shares shares) e f = at_shares shares

        go : (b : Bool) → admitted m s ≡ b → (c : Call) → m.call ≡ c → At (if admitted m s then settles m.call s else s)
        go true f c e = rw (f, e) (one c e f)
        go false f c e = rw f was

  -- a call that does not clear house h, that is, no grow of it and no removal from it, but a refused one: it only lands more there
  pub call_onwards : (m : Made) → (Clears h m s → ⊥) → Onwards h s (after_call m s)
  unfolding house_at
  call_onwards m quiet =
      let g = at_call m (Goes (register_at h s) (removals_at h s)) (goes_none (register_at h s) (removals_at h s)) (λ c e f. effect_goes c (house_at h s) (still c e f)) in
      record { landed_since = g.since; count_stays = g.count }
    where
      still : (c : HouseCall) → m.call ≡ in_house h c → admitted m s ≡ true → Quiet c (house_at h s)
      still c e f = (
        λ bs q. quiet (inl (record { bytes = bs; call_is = e ∙ ap (in_house h) q; not_refused = f })),
        λ d slice r cs q w. quiet (inr (record { edge = d; slice = slice; call_is = e ∙ ap (in_house h) q; not_refused = f; left = r; changes = cs; takes = w })),
      )

  -- a call that is no grow of house h never lowers its count of removals
  pub count_rises : (m : Made) → (Grows h m s → ⊥) → removals_at h s ≤ removals_at h (after_call m s)
  unfolding house_at
  count_rises m quiet =
      at_call m (λ r k. removals_at h s ≤ k) (omega arith)
      (λ c e f. effect_count c (house_at h s) (λ bs q. quiet (record { bytes = bs; call_is = e ∙ ap (in_house h) q; not_refused = f })))

  -- a removal that is not refused raises it by one
  pub removal_counts : (m : Made) → Removes h m s → removals_at h (after_call m s) ≡ removals_at h s + 1
  unfolding after_call settles effect remove_effect house_at
  removal_counts m t = rw (t.not_refused, t.call_is, removals_put h _ _ s here_too) (rw t.takes)

  -- a grow that is not refused takes it back to 0
  pub grow_counts : (m : Made) → Grows h m s → removals_at h (after_call m s) ≡ 0
  unfolding after_call settles effect read_effect
  grow_counts m g = rw (g.not_refused, g.call_is, removals_put h _ _ s here_too)

-- ---- a series

-- calls none of which clears house h only land more there, and leave its count of removals
pub series_onwards : (h : ℕ) → h < houses → (ms : List Made) (n : Nursery) (s : Site) → Sound s → Holds n s → NoneClears h ms s → Onwards h s (after ms s)
unfolding after
series_onwards h l [] n s o k quiet = onwards_none h s
series_onwards h l (m ∷ ms) n s o k quiet =
    let d = call_does n s o k m in
    onwards_both (call_onwards h l s o m quiet.0) (series_onwards h l ms (makes m n).lent.nursery (after_call m s) d.sound d.holds quiet.1)

-- none of the calls grows house h, but refused ones
abbrev pub NoneGrows : ℕ → List Made → Site → Type 0
NoneGrows h [] s = Unit {0}
NoneGrows h (m ∷ ms) s = (Grows h m s → ⊥) × NoneGrows h ms (after_call m s)

-- calls none of which grows house h: its count of removals is not lower then
pub series_count : (h : ℕ) → h < houses → (ms : List Made) (n : Nursery) (s : Site) → Sound s → Holds n s → NoneGrows h ms s
    → removals_at h s ≤ removals_at h (after ms s)
unfolding after
series_count h l [] n s o k quiet = omega arith
series_count h l (m ∷ ms) n s o k quiet =
    let d = call_does n s o k m in
    omega (
      arith,
      count_rises h l s o m quiet.0,
      series_count h l ms (makes m n).lent.nursery (after_call m s) d.sound d.holds quiet.1,
    )
