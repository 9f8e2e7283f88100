-- The last clearing of a house, in demand 3's sense: its last grow not refused with 25, 21 or 37, its last removal not refused, or the start.
use Rattle.std.specs.Prelude.{if◌then◌else◌}
use mathlib.Core.Path.{◌≡◌, refl, sym, ap, ◌∙◌}
use mathlib.Core.Logic.{◌⊎◌, inl, inr}
use Prim.Native.Nat.{ℕ}
use native.Mathlib.Decide.{ℕ_discrete}
use mathlib.Core.Bool.{Bool, true, false}
use mathlib.Core.List.{List, [], ◌∷◌, ◌++◌, append_assoc, append-nil}
use lib.ListN.{length}
use borrow.Author.Tests.{eq-eqb, ne_eqb}
use Rattle.model.specs.Register.{Register, commit, empty}
use Rattle.model.specs.Calls.{House}
use Rattle.model.specs.Series.{Landing, committed_by, landed_by}
use Rattle.nursery.specs.Removal.{Change, Removed, kept_with, landed_anew, remove, removed, without}
use Rattle.nursery.specs.Calls.{Call, HouseCall, asks, commits, grows, in_house, lands, removes, sets_shares}
use Rattle.nursery.specs.Series.{Made, Site, accepts, accepts_in, accepts_made, accepts_rest, admitted, after, after_call, empty_site, house_at, limit_at, register_at, since}

-- ---- clearings

pub record Grows (h : ℕ) (m : Made) (s : Site) : Type 0 where
  pub bytes : List ℕ
  pub call_is : m.call ≡ in_house h (grows bytes)
  pub not_refused : admitted m s ≡ true

pub record Removes (h : ℕ) (m : Made) (s : Site) : Type 0 where
  pub edge : ℕ
  pub slice : List ℕ
  pub call_is : m.call ≡ in_house h (removes edge slice)
  pub not_refused : admitted m s ≡ true
  pub left : Register
  pub changes : List Change
  pub takes : remove (house_at h s) edge (length slice) ≡ removed left changes

abbrev pub Clears : ℕ → Made → Site → Type 0
Clears h m s = Grows h m s ⊎ Removes h m s

-- none of the calls clears house h
abbrev pub NoneClears : ℕ → List Made → Site → Type 0
NoneClears h [] s = Unit {0}
NoneClears h (m ∷ ms) s = (Clears h m s → ⊥) × NoneClears h ms (after_call m s)

-- ---- a call that does not clear adds to what was accepted before it

house_more : (c : HouseCall) (s : House) (ls ks : List Landing) → ((bs : List ℕ) → c ≡ grows bs → ⊥)
    → ((d : ℕ) (slice : List ℕ) (r : Register) (cs : List Change) → c ≡ removes d slice → remove s d (length slice) ≡ removed r cs → ⊥)
    → accepts c s (ls ++ ks) ≡ ls ++ accepts c s ks
unfolding accepts accepts_rest
house_more (grows bs) s ls ks g t = absurd (g bs refl)
house_more (lands bs) s ls ks g t = append_assoc ls ks (landed_by s.limit s.register bs)
house_more (commits q) s ls ks g t = append_assoc ls ks (committed_by s.register q.asked (commit s.limit s.register q))
house_more (asks q) s ls ks g t = refl
house_more (removes d slice) s ls ks g t = go (remove s d (length slice)) refl
  where
    go : (x : Removed) → remove s d (length slice) ≡ x → accepts (removes d slice) s (ls ++ ks) ≡ ls ++ accepts (removes d slice) s ks
    go (removed r cs) q = absurd (t d slice r cs refl q)
    go (kept_with x) q = rw q

accepts_more : (h : ℕ) (m : Made) (s : Site) (ls ks : List Landing) → (Clears h m s → ⊥) → accepts_made h m s (ls ++ ks) ≡ ls ++ accepts_made h m s ks
unfolding accepts_made accepts_in
accepts_more h m s ls ks quiet = go (admitted m s) refl m.call refl
  where
    house : (g : ℕ) (c : HouseCall) → admitted m s ≡ true → m.call ≡ in_house g c → Dec (h ≡ g) → accepts_in h (in_house g c) s (ls ++ ks) ≡ ls ++ accepts_in h (in_house g c) s ks
    house g c f e (no d) = rw (ne_eqb h g d)
    house g c f e (yes z) =
        let e' : m.call ≡ in_house h c = e ∙ ap (λ (i : ℕ). in_house i c) (sym z) in
        rw (eq-eqb h g z)
        (house_more c (house_at h s) ls ks
        (λ bs q. quiet (inl (record { bytes = bs; call_is = e' ∙ ap (in_house h) q; not_refused = f })))
        (λ d slice r cs q w. quiet (inr (record { edge = d; slice = slice; call_is = e' ∙ ap (in_house h) q; not_refused = f; left = r; changes = cs; takes = w }))))

    one : (c : Call) → m.call ≡ c → admitted m s ≡ true → accepts_in h c s (ls ++ ks) ≡ ls ++ accepts_in h c s ks
    one (in_house g c) e f = house g c f e (ℕ_discrete h g)
    one (sets_shares shares) e f = refl

    go : (b : Bool) → admitted m s ≡ b → (c : Call) → m.call ≡ c
        → (if admitted m s then accepts_in h m.call s (ls ++ ks) else ls ++ ks) ≡ ls ++ (if admitted m s then accepts_in h m.call s ks else ks)
    go true f c e = rw (f, e) (one c e f)
    go false f c e = rw f

since_more : (h : ℕ) (ms : List Made) (s : Site) (ls ks : List Landing) → NoneClears h ms s → since h ms s (ls ++ ks) ≡ ls ++ since h ms s ks
unfolding since
since_more h [] s ls ks quiet = refl
since_more h (m ∷ ms) s ls ks quiet =
    ap (since h ms (after_call m s)) (accepts_more h m s ls ks quiet.0) ∙ since_more h ms (after_call m s) ls (accepts_made h m s ks) quiet.1

since_append : (h : ℕ) (ms ns : List Made) (s : Site) (ls : List Landing) → since h (ms ++ ns) s ls ≡ since h ns (after ms s) (since h ms s ls)
unfolding since after
since_append h [] ns s ls = refl
since_append h (m ∷ ms) ns s ls = since_append h ms ns (after_call m s) (accepts_made h m s ls)

-- ---- a clearing forgets what was before it: what counts then are its own landings

-- of a grow, those of its list; of a removal, the remaining edges landed anew
unfoldable pub cleared_to : (h : ℕ) (m : Made) (s : Site) → Clears h m s → List Landing
cleared_to h m s (inl g) = landed_by (limit_at h s) empty g.bytes
cleared_to h m s (inr t) = landed_anew (register_at h s).vertices (without t.edge (register_at h s).edges)

pub clears : (h : ℕ) (m : Made) (s : Site) (c : Clears h m s) (ls : List Landing) → accepts_made h m s ls ≡ cleared_to h m s c
unfolding accepts_made accepts_in accepts accepts_rest cleared_to house_at
clears h m s (inl g) ls = rw (g.not_refused, g.call_is, eq-eqb h h refl)
clears h m s (inr t) ls = rw (t.not_refused, t.call_is, eq-eqb h h refl) (rw t.takes)

-- With the last clearing of house h at m, what counts at the end is what it counts itself, and then what the calls after it accept.
pub last_clearing : (h : ℕ) (ms ns : List Made) (m : Made) (c : Clears h m (after ms empty_site)) → NoneClears h ns (after_call m (after ms empty_site))
    → since h (ms ++ (m ∷ ns)) empty_site [] ≡ cleared_to h m (after ms empty_site) c ++ since h ns (after_call m (after ms empty_site)) []
unfolding since
last_clearing h ms ns m c quiet =
    let s = after ms empty_site in
    let s' = after_call m s in
    let xs = cleared_to h m s c in
    since_append h ms (m ∷ ns) empty_site []
    ∙ ap (since h ns s') (clears h m s c (since h ms empty_site []) ∙ sym (append-nil xs))
    ∙ since_more h ns s' xs [] quiet
