-- Of series of calls: 21 holds in none, and 25 only of what a call brings; and a call for one house changes no answer of another.
use Rattle.std.specs.Prelude.{if◌then◌else◌}
use mathlib.Core.Path.{◌≡◌, refl, sym, ap, ◌∙◌}
use mathlib.Core.Logic.{◌≢◌}
use Prim.Native.Nat.{ℕ, ◌<◌}
use native.Mathlib.Omega.{arith}
use mathlib.Core.Bool.{Bool, true, false, not}
use mathlib.Core.List.{List}
use lib.ListN.{length}
use lib.Dec.{ltb}
use borrow.Author.Tests.{ltb-true, not-false}
use Rattle.model.specs.Register.{Landed, Quote, commit, landed, refused}
use Rattle.model.specs.Queries.{refuses}
use Rattle.model.specs.Tables.{Tables, fits}
use Rattle.model.specs.Calls.{Ask, House, answer, finding, finding_at, measuring, quoting, opening, fetching, sheeting, writing}
use Rattle.model.specs.Notions.{Reachable}
use Rattle.model.proofs.Basics.Booleans.{if_either}
use Rattle.model.proofs.Registers.Quotes.{commit_refused}
use Rattle.theory.proofs.Registers.Reachable.{founded}
use Rattle.theory.proofs.Series.Own.{Own, own, own_answer, refusal_of}
use Rattle.nursery.specs.Licence.{houses}
use Rattle.nursery.specs.Removal.{Removed, kept_with, remove, removed}
use Rattle.nursery.specs.Nursery.{no_houses}
use Rattle.nursery.specs.Calls.{Call, HouseCall, asks, commit_effect, commits, effect, grows, in_house, lands, out_of_place, read_effect, remove_effect, removes, sets_shares}
use Rattle.nursery.specs.Series.{Made, Site, admitted, after, after_call, answered, asked_of, empty_site, house_at, made_fits, makes, register_at, removals_at, reply_to, series, settles, vertices_at}
use Rattle.nursery.proofs.Removal.{KeptFor, RemovalIs, no_more_removals, no_room, no_such_edge, removal_is}
use Rattle.nursery.proofs.State.{Sound}
use Rattle.nursery.proofs.Kept.{call_does, register_other, removals_other}
use Rattle.nursery.proofs.Whole.{asked_is, from_start}

-- ---- 21 and 25

own_kept : (s : House) (d room x : ℕ) → KeptFor s d room x → (x ≢ 21) × (x ≢ 25)
own_kept s d room x (no_such_edge a e) = (λ z. omega (arith, e, z), λ z. omega (arith, e, z))
own_kept s d room x (no_more_removals a e) = (λ z. omega (arith, e, z), λ z. omega (arith, e, z))
own_kept s d room x (no_room i k r g a e) = (λ z. omega (arith, e, z), λ z. omega (arith, e, z))

own_removal : (s : House) (d : ℕ) (slice : List ℕ) (x : Removed) → RemovalIs s d (length slice) x → Own (remove_effect s slice x).reply
unfolding remove_effect refusal_of
own_removal s d slice (removed r cs) k = own 0 (omega arith)
own_removal s d slice (kept_with x) k = own_kept s d (length slice) x k

own_commit : (s : House) (q : Quote) (l : Landed) → commit s.limit s.register q ≡ l → Own (commit_effect s l).reply
unfolding commit_effect refusal_of
own_commit s q (landed r) h = own 0 (omega arith)
own_commit s q (refused x) h = commit_refused s.limit s.register q x h

own_effect : (c : HouseCall) (s : House) → Reachable s.register → Own (effect c s).reply
unfolding effect read_effect refusal_of
own_effect (grows bs) s r = own 0 (omega arith)
own_effect (lands bs) s r = own 0 (omega arith)
own_effect (commits q) s r = own_commit s q (commit s.limit s.register q) refl
own_effect (removes d slice) s r = own_removal s d slice (remove s d (length slice)) (removal_is s (founded s.register r) d (length slice))
own_effect (asks q) s r = own_answer q s

own_answered : (c : Call) (s : Site) → Sound s → out_of_place c (vertices_at s) ≡ false → Own (answered c s)
unfolding answered out_of_place house_at refusal_of
own_answered (in_house h c) s o p = own_effect c (house_at h s) (o.reachable h (ltb-true h houses (not-false (ltb h houses) p)))
own_answered (sets_shares shares) s o p = own 0 (omega arith)

own_reply : (m : Made) (s : Site) → Sound s → (p : Bool) → out_of_place m.call (vertices_at s) ≡ p → Own (if p then refuses 37 else answered m.call s)
unfolding refusal_of
own_reply m s o true q = (λ z. omega arith, λ z. omega arith)
own_reply m s o false q = own_answered m.call s o q

module _ (ms : List Made) (m : Made) where
  abbrev s : Site
  s = after ms empty_site

  replied : (makes m (series ms no_houses)).reply ≡ (if not (made_fits m) then refuses 25 else if out_of_place m.call (vertices_at s) then refuses 37 else answered m.call s)
  unfolding reply_to
  replied = let d = from_start ms in (call_does (series ms no_houses) s d.sound d.holds m).reply_is

  -- "Refusal 21 holds in no series"
  pub never_21 : (makes m (series ms no_houses)).reply ≢ refuses 21
  unfolding refusal_of
  never_21 e = go (made_fits m) (sym replied ∙ e)
    where
      o : Sound s
      o = (from_start ms).sound

      go : (b : Bool) → (if not b then refuses 25 else if out_of_place m.call (vertices_at s) then refuses 37 else answered m.call s) ≡ refuses 21 → ⊥
      go true f = (own_reply m s o (out_of_place m.call (vertices_at s)) refl).0 (ap refusal_of f)
      go false f = let z : ◌≡◌ {A = ℕ} 25 21 = ap refusal_of f in omega arith

  -- 25 only of the scratch or of the shares that the call brings
  pub never_25 : made_fits m ≡ true → (makes m (series ms no_houses)).reply ≢ refuses 25
  unfolding refusal_of
  never_25 f e =
      (own_reply m s (from_start ms).sound (out_of_place m.call (vertices_at s)) refl).1
      (ap refusal_of (ap (λ (b : Bool). if not b then refuses 25 else if out_of_place m.call (vertices_at s) then refuses 37 else answered m.call s) (sym f) ∙ sym replied ∙ e))

-- ---- "landing in one house alters no sheet of another"

-- every question but a quote, which hangs on what the others have landed
abbrev pub NoQuote : Ask → Type 0
NoQuote (finding label) = Unit {0}
NoQuote (finding_at v) = Unit {0}
NoQuote (measuring v w) = Unit {0}
NoQuote (sheeting slice) = Unit {0}
NoQuote (writing slice) = Unit {0}
NoQuote (quoting e) = ⊥
NoQuote opening = Unit {0}
NoQuote (fetching o) = Unit {0}

pub answer_same : (q : Ask) (s t : House) → NoQuote q → s.register ≡ t.register → s.removals ≡ t.removals → answer q s ≡ answer q t
unfolding answer
answer_same (finding label) s t u e k = rw e
answer_same (finding_at v) s t u e k = rw e
answer_same (measuring v w) s t u e k = rw e
answer_same (sheeting slice) s t u e k = rw e
answer_same (writing slice) s t u e k = rw e
answer_same (quoting e) s t u z k = absurd u
answer_same opening s t u e k = rw (e, k)
answer_same (fetching o) s t u e k = rw (e, k)

other_register : (h g : ℕ) (c : HouseCall) (given : Tables) (s : Site) → g ≢ h
    → register_at g (after_call (record { call = in_house h c; scratch = given }) s) ≡ register_at g s
unfolding after_call settles
other_register h g c given s d =
    if_either (λ (t : Site). register_at g t ≡ register_at g s) (admitted (record { call = in_house h c; scratch = given }) s) _ s
    (register_other g h _ _ s d) refl

other_removals : (h g : ℕ) (c : HouseCall) (given : Tables) (s : Site) → g ≢ h
    → removals_at g (after_call (record { call = in_house h c; scratch = given }) s) ≡ removals_at g s
unfolding after_call settles
other_removals h g c given s d =
    if_either (λ (t : Site). removals_at g t ≡ removals_at g s) (admitted (record { call = in_house h c; scratch = given }) s) _ s
    (removals_other g h _ _ s d) refl

-- after any series, whatever call is made for house h: the sheet of house g, and every other answer of it, is as it was
pub others_answer : (ms : List Made) (h g : ℕ) (c : HouseCall) (given scratch : Tables) → g ≢ h → g < houses → fits scratch ≡ true → (q : Ask) → NoQuote q
    → asked_of g scratch (makes (record { call = in_house h c; scratch = given }) (series ms no_houses)).lent.nursery q ≡ asked_of g scratch (series ms no_houses) q
unfolding house_at
others_answer ms h g c given scratch d l f q u =
    let n = series ms no_houses in
    let t = after ms empty_site in
    let m : Made = record { call = in_house h c; scratch = given } in
    let w = from_start ms in
    let x = call_does n t w.sound w.holds m in
    asked_is (makes m n).lent.nursery (after_call m t) x.sound x.holds g l scratch f q
    ∙ answer_same q (house_at g (after_call m t)) (house_at g t) u (other_register h g c given t d) (other_removals h g c given t d)
    ∙ sym (asked_is n t w.sound w.holds g l scratch f q)
