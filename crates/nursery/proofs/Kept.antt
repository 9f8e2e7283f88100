-- What a call does to eight houses: they stay sound, and the nursery holds what the calls alone settle.
use Rattle.std.specs.Prelude.{if◌then◌else◌}
use mathlib.Core.Path.{◌≡◌, refl, sym, ap, ◌∙◌, subst}
use mathlib.Core.Logic.{◌≢◌}
use Prim.Native.Nat.{ℕ, zero, suc, ◌≤◌, ◌<◌, max}
use native.Mathlib.Omega.{arith}
use native.Mathlib.Decide.{ℕ_discrete, dec_lt}
use mathlib.Core.Bool.{Bool, true, false, not, ◌&&◌}
use mathlib.Core.List.{List, [], ◌∷◌, map}
use lib.ListN.{length, get_or, set, length-set}
use lib.Seq.{get_or-set_same, get_or-set_other}
use lib.Dec.{eqb, ltb}
use borrow.Author.Tests.{eq-eqb, ne_eqb, eqb-true, ltb-true, ltb-false, not-false}
use Rattle.model.specs.Basics.{sum}
use Rattle.model.specs.Register.{Register, empty}
use Rattle.model.specs.Tables.{Counts, Tables, counts_of, fits, tables_of}
use Rattle.model.specs.Series.{Landing}
use Rattle.model.specs.Notions.{Reachable, history}
use Rattle.model.proofs.Basics.Booleans.{and_true, or_false}
use Rattle.theory.proofs.Registers.Reachable.{founded}
use Rattle.theory.proofs.Series.Landings.{LeftBy}
use Rattle.nursery.specs.Licence.{houses, licence, reserves}
use Rattle.nursery.specs.Nursery.{Nursery, put_in, tables_in, with_shares}
use Rattle.nursery.specs.Calls.{Call, HouseCall, any_some, brings_eight, does, effect, in_house, out_of_place, sets_shares, step}
use Rattle.nursery.specs.Series.{Made, Site, accepts, accepts_in, accepts_made, admitted, after_call, answered, edges_at, house_at, limit_at, made_fits, makes, put_at, register_at, removals_at, reply_to, settles, shared_out, vertices_at}
use Rattle.nursery.proofs.Licence.{AllZero, own_within, shares_alone, within_limit, without_own}
use Rattle.nursery.proofs.Parts.{house_other, house_own, house_sized, one_house}
use Rattle.nursery.proofs.Effects.{does_house}
use Rattle.nursery.proofs.State.{Holds, Sound, as_many, barred_is, edges_at_lem, house_is}

-- ---- another register in house h

map_set : {A B : Type 0} (f : A → B) (xs : List A) (i : ℕ) (x : A) → map f (set xs i x) ≡ set (map f xs) i (f x)
map_set f [] i x = refl
map_set f (y ∷ xs) zero x = refl
map_set {A} {B} f (y ∷ xs) (suc i) x = ap (λ (ys : List B). f y ∷ ys) (map_set f xs i x)

edges_put : (h : ℕ) (r : Register) (removals : ℕ) (s : Site) → edges_at (put_at h r removals s) ≡ set (edges_at s) h (length r.edges)
unfolding edges_at put_at
edges_put h r removals s = map_set (λ (x : Register). length x.edges) s.registers h r

-- the house has the register that is put, and any other house its own
pub register_put : (h : ℕ) (r : Register) (removals : ℕ) (s : Site) → h < length s.registers → register_at h (put_at h r removals s) ≡ r
unfolding register_at put_at
register_put h r removals s l = get_or-set_same s.registers h r empty l

pub register_other : (g h : ℕ) (r : Register) (removals : ℕ) (s : Site) → g ≢ h → register_at g (put_at h r removals s) ≡ register_at g s
unfolding register_at put_at
register_other g h r removals s d = get_or-set_other s.registers h g r empty d

-- any other house has its own count of removals
pub removals_other : (g h : ℕ) (r : Register) (removals : ℕ) (s : Site) → g ≢ h → removals_at g (put_at h r removals s) ≡ removals_at g s
unfolding removals_at put_at
removals_other g h r removals s d = get_or-set_other s.removals h g removals 0 d

-- what the house has is within its limit, so what is left there is
within_own : (s : Site) → Sound s → (h : ℕ) → h < houses → (n : ℕ) → n ≤ max (length (register_at h s).edges) (limit_at h s) → n ≤ limit_at h s
unfolding limit_at
within_own s o h l n few =
    omega (arith, few, edges_at_lem s h, own_within h s.shares (edges_at s) (as_many s o) (omega (arith, l, o.eight_shares)) o.within)

module _ (h : ℕ) (r : Register) (removals : ℕ) (s : Site) (o : Sound s) (l : h < houses) (c : Reachable r) (few : length r.edges ≤ limit_at h s) where
  here : h < length s.registers
  here = omega (arith, o.eight, l)

  -- what holds of each register holds of each then
  put_each : (P : ℕ → Register → Type 0) → P h r → ((g : ℕ) → g < houses → g ≢ h → P g (register_at g s))
      → (g : ℕ) → g < houses → P g (register_at g (put_at h r removals s))
  put_each P own other g m = go (ℕ_discrete g h)
    where
      go : Dec (g ≡ h) → P g (register_at g (put_at h r removals s))
      go (yes e) = subst (λ (i : ℕ). P i (register_at i (put_at h r removals s))) (sym e) (subst (P h) (sym (register_put h r removals s here)) own)
      go (no d) = subst (P g) (sym (register_other g h r removals s d)) (other g m d)

  sound_put : Sound (put_at h r removals s)
  unfolding put_at limit_at
  sound_put =
      let inside : h < length s.shares = omega (arith, l, o.eight_shares) in
      let empty_within = without_own h s.shares (edges_at s) (as_many s o) inside in
      record {
        eight = length-set s.registers h r ∙ o.eight;
        eight_removals = length-set s.removals h removals ∙ o.eight_removals;
        eight_shares = o.eight_shares;
        reachable = put_each (λ g x. Reachable x) c (λ g m d. o.reachable g m);
        within =
            subst (λ (ns : List ℕ). sum (reserves s.shares ns) ≤ licence) (sym (edges_put h r removals s))
            (within_limit h s.shares (edges_at s) (as_many s o) inside (length r.edges) (omega (arith, empty_within, o.within)) few);
      }

  holds_put : (n : Nursery) → Holds n s → Holds (put_in h r removals n) (put_at h r removals s)
  unfolding put_in put_at
  holds_put n k =
      let one = one_house r c in
      record {
        sized = house_sized h (tables_of r) n.tables l one k.sized;
        tables_are = put_each (λ g x. tables_in g (put_in h r removals n).tables ≡ tables_of x)
            (house_own h (tables_of r) n.tables l one k.sized)
            (λ g m d. house_other h (tables_of r) n.tables l one k.sized g d ∙ k.tables_are g m);
        heads_are = ap (λ (cs : List Counts). set cs h (counts_of r)) k.heads_are ∙ sym (map_set counts_of s.registers h r);
        removals_are = ap (λ (xs : List ℕ). set xs h removals) k.removals_are;
        shares_are = k.shares_are;
      }

-- ---- other shares: "only when all houses are empty (no fittings)"

no_edges_without : (r : Register) → Reachable r → r.vertices ≡ 0 → length r.edges ≡ 0
no_edges_without r c e = go (dec_lt 0 (length r.edges))
  where
    go : Dec (0 < length r.edges) → length r.edges ≡ 0
    go (yes l) = absurd (let x = (founded r c).lawful 0 l in omega (arith, x.first_landed))
    go (no l) = omega (arith, l)

abbrev AllReachable : List Register → Type 0
AllReachable [] = Unit {0}
AllReachable (r ∷ rs) = Reachable r × AllReachable rs

all_reachable : (rs : List Register) → ((h : ℕ) → h < length rs → Reachable (get_or rs h empty)) → AllReachable rs
all_reachable [] f = tt
all_reachable (r ∷ rs) f = (f 0 (omega arith), all_reachable rs (λ h l. f (suc h) (omega arith)))

none_landed : (rs : List Register) → AllReachable rs → any_some (map (λ (r : Register). r.vertices) rs) ≡ false
    → AllZero (map (λ (r : Register). length r.edges) rs)
unfolding any_some
none_landed [] a e = tt
none_landed (r ∷ rs) a e =
    let q = or_false (not (eqb r.vertices 0)) (any_some (map (λ (r : Register). r.vertices) rs)) e in
    (no_edges_without r a.0 (eqb-true r.vertices 0 (not-false (eqb r.vertices 0) q.0)), none_landed rs a.1 q.1)

register_shared : (h : ℕ) (shares : List ℕ) (s : Site) → register_at h s ≡ register_at h (shared_out shares s)
unfolding shared_out register_at
register_shared h shares s = refl

sound_shared : (shares : List ℕ) (s : Site) → Sound s → length shares ≡ houses → out_of_place (sets_shares shares) (vertices_at s) ≡ false → Sound (shared_out shares s)
unfolding shared_out out_of_place vertices_at register_at edges_at
sound_shared shares s o e q =
    let b = or_false (ltb licence (sum shares)) (any_some (map (λ (r : Register). r.vertices) s.registers)) q in
    let a = all_reachable s.registers (λ h l. o.reachable h (omega (arith, l, o.eight))) in
    record {
      eight = o.eight;
      eight_removals = o.eight_removals;
      eight_shares = e;
      reachable = o.reachable;
      within = omega (arith, shares_alone shares (map (λ (r : Register). length r.edges) s.registers) (none_landed s.registers a b.1), ltb-false licence (sum shares) b.0);
    }

holds_shared : (shares : List ℕ) (n : Nursery) (s : Site) → Holds n s → Holds (with_shares shares n) (shared_out shares s)
unfolding shared_out with_shares register_at
holds_shared shares n s k = record { sized = k.sized; tables_are = k.tables_are; heads_are = k.heads_are; removals_are = k.removals_are; shares_are = refl }

-- ---- one call

pub record CallDoes (m : Made) (n : Nursery) (s : Site) : Type 0 where
  pub sound : Sound (after_call m s)
  pub holds : Holds (makes m n).lent.nursery (after_call m s)
  pub reply_is : (makes m n).reply ≡ reply_to m s
  pub left : (h : ℕ) → h < houses → (ls : List Landing) → LeftBy ls (register_at h s) → LeftBy (accepts_made h m s ls) (register_at h (after_call m s))

module _ (n : Nursery) (s : Site) (o : Sound s) (k : Holds n s) where
  -- a call that is not barred
  record Settles (c : Call) : Type 0 where
    sound : Sound (settles c s)
    holds : Holds (does c n).lent.nursery (settles c s)
    reply_is : (does c n).reply ≡ answered c s
    left : (h : ℕ) → h < houses → (ls : List Landing) → LeftBy ls (register_at h s) → LeftBy (accepts_in h c s ls) (register_at h (settles c s))

  house_settles : (g : ℕ) (c : HouseCall) → g < houses → Settles (in_house g c)
  unfolding does settles answered accepts_in house_at
  house_settles g c l =
      let x = effect c (house_at g s) in
      let d = does_house c (house_at g s) (history (o.reachable g l)) (record { reachable = o.reachable g l; history_is = refl }) in
      let few = within_own s o g l (length x.leaves.edges) d.few in
      let is = house_is n s o k g l in
      record {
        sound = sound_put g x.leaves x.removals s o l d.left.reachable few;
        holds = rw is (holds_put g x.leaves x.removals s o l d.left.reachable few n k);
        reply_is = rw is;
        left = λ h m ls b. left_at h ls b (ℕ_discrete h g);
      }
    where
      left_at : (h : ℕ) (ls : List Landing) → LeftBy ls (register_at h s) → Dec (h ≡ g)
          → LeftBy (if eqb h g then accepts c (house_at h s) ls else ls)
          (register_at h (put_at g (effect c (house_at g s)).leaves (effect c (house_at g s)).removals s))
      left_at h ls b (yes z) =
          let x = effect c (house_at g s) in
          let b' : LeftBy ls (register_at g s) = subst (λ (i : ℕ). LeftBy ls (register_at i s)) z b in
          let d = does_house c (house_at g s) ls b' in
          subst (λ (i : ℕ). LeftBy (if eqb i g then accepts c (house_at i s) ls else ls) (register_at i (put_at g x.leaves x.removals s))) (sym z)
          (rw (eq-eqb g g refl, register_put g x.leaves x.removals s (omega (arith, o.eight, l))) d.left)
      left_at h ls b (no z) =
          let x = effect c (house_at g s) in
          rw (ne_eqb h g z, register_other h g x.leaves x.removals s z) b

  shares_settle : (shares : List ℕ) → length shares ≡ houses → out_of_place (sets_shares shares) (vertices_at s) ≡ false → Settles (sets_shares shares)
  unfolding does settles answered accepts_in
  shares_settle shares e q =
      record {
        sound = sound_shared shares s o e q;
        holds = holds_shared shares n s k;
        reply_is = refl;
        left = λ h l ls b. subst (LeftBy ls) (register_shared h shares s) b;
      }

  call_settles : (c : Call) → brings_eight c ≡ true → out_of_place c (vertices_at s) ≡ false → Settles c
  unfolding brings_eight out_of_place
  call_settles (in_house g c) e q = house_settles g c (ltb-true g houses (not-false (ltb g houses) q))
  call_settles (sets_shares shares) e q = shares_settle shares (eqb-true (length shares) houses e) q

  by_tests : (c : Call) (scratch : Tables) (f : Bool) → (fits scratch && brings_eight c) ≡ f → (q : Bool) → out_of_place c (vertices_at s) ≡ q
      → CallDoes (record { call = c; scratch = scratch }) n s
  unfolding after_call makes made_fits admitted reply_to accepts_made step
  by_tests c scratch false f q p =
      let e = barred_is n s o k c scratch in
      record { sound = rw f o; holds = rw (e, f, step) k; reply_is = rw (e, f, step); left = λ h l ls b. rw f b }
  by_tests c scratch true f true p =
      let e = barred_is n s o k c scratch in
      record { sound = rw (f, p) o; holds = rw (e, f, p, step) k; reply_is = rw (e, f, p, step); left = λ h l ls b. rw (f, p) b }
  by_tests c scratch true f false p =
      let e = barred_is n s o k c scratch in
      let d = call_settles c (and_true (fits scratch) (brings_eight c) f).1 p in
      record {
        sound = rw (f, p) d.sound;
        holds = rw (e, f, p, step) d.holds;
        reply_is = rw (e, f, p, step) d.reply_is;
        left = λ h l ls b. rw (f, p) (d.left h l ls b);
      }

  -- every call keeps the eight houses sound and held, and is answered as the calls alone settle it
  pub call_does : (m : Made) → CallDoes m n s
  call_does m = by_tests m.call m.scratch (fits m.scratch && brings_eight m.call) refl (out_of_place m.call (vertices_at s)) refl
