-- Calls over whatever is lent: what bars them and what is known if nothing does; a call for one house leaves the others as they were.
use Rattle.std.specs.Prelude.{if◌then◌else◌}
use mathlib.Core.Path.{◌≡◌, refl, sym, ap, ◌∙◌, subst}
use mathlib.Core.Logic.{◌≢◌, ◌⊎◌, inl, inr}
use Prim.Native.Nat.{ℕ, zero, suc, ◌+◌, ◌≤◌, ◌<◌}
use native.Mathlib.Omega.{arith}
use native.Mathlib.Decide.{ℕ_discrete}
use mathlib.Core.Bool.{Bool, true, false, not, ◌&&◌, ◌||◌}
use mathlib.Core.Option.{Option, none, some, none-ne-some}
use mathlib.Core.List.Memᴰ.{cases_cons as mem-cases}
use mathlib.Core.List.Memᴰ.{head as at_head}
use mathlib.Core.List.Memᴰ.{not-nil as mem-nil}
use mathlib.Core.List.Memᴰ.{tail as in_Tail}
use mathlib.Core.List.{List, [], ◌∷◌, Memᴰ as Mem}
use lib.ListN.{length, get_or, set}
use lib.Seq.{get_or-set_other, get_or-set_same, set-get_or}
use lib.Dec.{ltb}
use borrow.Author.Tests.{ltb-false, ltb-true, not-false}
use Rattle.model.specs.Basics.{count_from, sum, up_to}
use Rattle.model.specs.Register.{Register}
use Rattle.model.specs.Queries.{refuses}
use Rattle.model.specs.Tables.{Counts, Stored, Tables, cleared, counts_of, fits, held, no_counts, stored_of, tables_of}
use Rattle.model.specs.Calls.{Ask}
use Rattle.model.specs.Notions.{Reachable, history}
use Rattle.model.proofs.Basics.Booleans.{and_true, if_either, or_false}
use Rattle.theory.proofs.Registers.Equality.{stored_parts}
use Rattle.theory.proofs.Registers.OnlyHeld.{only_held}
use Rattle.theory.proofs.Registers.Reachable.{reachable_empty}
use Rattle.nursery.specs.Licence.{houses, licence, overfull, reserves}
use Rattle.nursery.specs.Nursery.{Nursery, edges_in, house_in, put_in, put_tables, register_in, removals_in, stored_in, tables_in, vertices_in}
use Rattle.nursery.specs.Calls.{Call, Effect, HouseCall, Lent, all_fit, asks, grown_by, any_damaged, barred, brings_eight, does, edges_but, effect, in_house, is_own, lent_slice, not_grown, nursery_fits, out_of_place, own_of, scratch_after, step}
use Rattle.nursery.specs.Notions.{Untouched}
use Rattle.nursery.proofs.Parts.{Sized, fits_sized, house_other, house_own, house_same, one_house}
use Rattle.nursery.proofs.Effects.{does_house}

-- ---- the two ways of a call

-- a call that nothing bars does what it is defined to do
pub step_open : (c : Call) (l : Lent) → barred c l ≡ none → step c l ≡ does c l.nursery
unfolding step
step_open c l e = rw (e, step)

-- a call for a house, by its effect
pub step_effect : (h : ℕ) (c : HouseCall) (l : Lent) (x : Effect) → barred (in_house h c) l ≡ none → effect c (house_in h l.nursery) ≡ x
    → step (in_house h c) l ≡ record { lent = record { nursery = put_in h x.leaves x.removals l.nursery; scratch = cleared }; slice = x.slice; reply = x.reply }
unfolding does
step_effect h c l x e q = step_open (in_house h c) l e ∙ rw q

-- 25, 21 and 37: "nothing changed"
pub step_barred : (c : Call) (l : Lent) (x : ℕ) → barred c l ≡ some x
    → step c l ≡ record { lent = record { nursery = l.nursery; scratch = scratch_after c l }; slice = lent_slice c; reply = refuses x }
unfolding step
step_barred c l x e = rw (e, step)

-- ---- what bars a call

-- 25 before all else
pub bars_25 : (c : Call) (l : Lent) → all_fit c l ≡ false → barred c l ≡ some 25
unfolding barred
bars_25 c l f = rw f

bars_21 : (c : Call) (l : Lent) → all_fit c l ≡ true → not_grown (own_of c) l.nursery ≡ true → barred c l ≡ some 21
unfolding barred
bars_21 c l f g = rw (f, g)

-- 37 after both
pub bars_37 : (c : Call) (l : Lent) → all_fit c l ≡ true → not_grown (own_of c) l.nursery ≡ false → out_of_place c (vertices_in l.nursery) ≡ true → barred c l ≡ some 37
unfolding barred
bars_37 c l f g p = rw (f, g, p)

-- and nothing else
abbrev AtGate : Option ℕ → Type 0
AtGate none = Unit {0}
AtGate (some x) = (x ≡ 25) ⊎ ((x ≡ 21) ⊎ (x ≡ 37))

at_gate : (c : Call) (l : Lent) → AtGate (barred c l)
unfolding barred
at_gate c l =
    if_either AtGate (not (all_fit c l)) (some 25) _ (inl refl)
    (if_either AtGate (not_grown (own_of c) l.nursery) (some 21) _ (inr (inl refl))
    (if_either AtGate (out_of_place c (vertices_in l.nursery)) (some 37) none (inr (inr refl)) tt))

-- whatever bars a call is one of these three
pub barred_by : (c : Call) (l : Lent) (x : ℕ) → barred c l ≡ some x → (x ≡ 25) ⊎ ((x ≡ 21) ⊎ (x ≡ 37))
barred_by c l x e = subst AtGate e (at_gate c l)

damaged_found : (own : Option ℕ) (n : Nursery) (g : ℕ) → is_own own g ≡ false → held (stored_in g n) ≡ none → (hs : List ℕ) → Mem g hs → any_damaged own n hs ≡ true
unfolding any_damaged
damaged_found own n g i d [] m = absurd (mem-nil m)
damaged_found own n g i d (x ∷ hs) m = go (mem-cases m) (λ k. damaged_found own n g i d hs k)
  where
    later : any_damaged own n hs ≡ true → (b : Bool) → is_own own x ≡ b → (o : Option Register) → held (stored_in x n) ≡ o → any_damaged own n (x ∷ hs) ≡ true
    later r true q o e = rw (q, any_damaged) r
    later r false q (some y) e = rw (q, any_damaged, e) r
    later r false q none e = rw (q, any_damaged, e)

    go : (g ≡ x) ⊎ Mem g hs → (Mem g hs → any_damaged own n hs ≡ true) → any_damaged own n (x ∷ hs) ≡ true
    go (inl z) ih =
        let i' : is_own own x ≡ false = rw z at i in
        let d' : held (stored_in x n) ≡ none = rw z at d in
        rw (i', any_damaged, d')
    go (inr k) ih = later (ih k) (is_own own x) refl (held (stored_in x n)) refl

in_row : (at n g : ℕ) → at ≤ g → g < at + n → Mem g (count_from at n)
unfolding count_from
in_row at zero g a b = absurd (omega arith)
in_row at (suc n) g a b = go (ℕ_discrete g at) (λ d. in_row (suc at) n g (omega (arith, d)) (omega arith))
  where
    go : Dec (g ≡ at) → (g ≢ at → Mem g (count_from (suc at) n)) → Mem g (at ∷ count_from (suc at) n)
    go (yes e) ih = at_head e
    go (no d) ih = in_Tail (ih d)

a_house : (g : ℕ) → g < houses → Mem g (up_to houses)
unfolding up_to
a_house g l = in_row 0 houses g (omega arith) (omega (arith, l))

-- "its 21 looks at every one": a house that holds no register gives 21 to every call, but to a grow of its own
pub damaged_21 : (c : Call) (l : Lent) (g : ℕ) → g < houses → is_own (own_of c) g ≡ false → held (stored_in g l.nursery) ≡ none → all_fit c l ≡ true → barred c l ≡ some 21
unfolding not_grown
damaged_21 c l g m i d f = bars_21 c l f (rw (damaged_found (own_of c) l.nursery g i d (up_to houses) (a_house g m)))

-- "and holds too where the larger of share and pipes, summed over them, passes 4,096", a grow's own house as empty
pub overfull_21 : (c : Call) (l : Lent) → overfull l.nursery.shares (edges_but (own_of c) (edges_in l.nursery)) ≡ true → all_fit c l ≡ true → barred c l ≡ some 21
unfolding not_grown
overfull_21 c l o f = bars_21 c l f (rw o (or_true (any_damaged (own_of c) l.nursery (up_to houses))))
  where
    or_true : (b : Bool) → (b || true) ≡ true
    or_true true = refl
    or_true false = refl

-- ---- what is known if nothing bars it

pub record Open (c : Call) (l : Lent) : Type 0 where
  pub fit : all_fit c l ≡ true
  pub nursery_fits_lem : nursery_fits l.nursery ≡ true
  pub sized : Sized houses l.nursery.tables
  pub eight_shares : length l.nursery.shares ≡ houses
  pub scratch_fits : fits l.scratch ≡ true
  pub held_all : (g : ℕ) → g < houses → is_own (own_of c) g ≡ false → held (stored_in g l.nursery) ≡ some (register_in g l.nursery)
  pub none_damaged : any_damaged (own_of c) l.nursery (up_to houses) ≡ false
  pub within : sum (reserves l.nursery.shares (edges_but (own_of c) (edges_in l.nursery))) ≤ licence
  pub in_place : out_of_place c (vertices_in l.nursery) ≡ false

-- one refusal taken off
past : (b : Bool) (x : ℕ) (y : Option ℕ) → (if b then some x else y) ≡ none → (b ≡ false) × (y ≡ none)
past true x y e = absurd (none-ne-some x (sym e))
past false x y e = (refl, e)

not_none : (h : ℕ) (n : Nursery) → held (stored_in h n) ≢ none → held (stored_in h n) ≡ some (register_in h n)
unfolding register_in
not_none h n d = go (held (stored_in h n)) refl
  where
    go : (o : Option Register) → held (stored_in h n) ≡ o → held (stored_in h n) ≡ some (register_in h n)
    go (some r) e = rw (e, register_in)
    go none e = absurd (d e)

-- a call that nothing bars has all of this
pub is_open : (c : Call) (l : Lent) → barred c l ≡ none → Open c l
unfolding barred all_fit not_grown overfull
is_open c l e =
    let n = l.nursery in
    let p = past (not (all_fit c l)) 25 _ e in
    let q = past (not_grown (own_of c) n) 21 _ p.1 in
    let t = past (out_of_place c (vertices_in n)) 37 none q.1 in
    let fit : all_fit c l ≡ true = not-false (all_fit c l) p.0 in
    let f = and_true (nursery_fits n && fits l.scratch) (brings_eight c) fit in
    let g = and_true (nursery_fits n) (fits l.scratch) f.0 in
    let d = or_false (any_damaged (own_of c) n (up_to houses)) (ltb licence (sum (reserves n.shares (edges_but (own_of c) (edges_in n))))) q.0 in
    record {
      fit = fit;
      nursery_fits_lem = g.0;
      sized = (fits_sized n g.0).0;
      eight_shares = (fits_sized n g.0).1;
      scratch_fits = g.1;
      held_all = λ h m i. not_none h n (λ z. no_some 21 (sym (damaged_21 c l h m i z fit) ∙ e));
      none_damaged = d.0;
      within = ltb-false licence _ d.1;
      in_place = t.0;
    }
  where
    no_some : (x : ℕ) → some x ≢ none
    no_some x z = none-ne-some x (sym z)

-- a call for a house: there is this house
pub open_inside : (h : ℕ) (c : HouseCall) (l : Lent) → Open (in_house h c) l → h < houses
unfolding out_of_place
open_inside h c l o = ltb-true h houses (not-false (ltb h houses) o.in_place)

-- ---- the register that is found

-- what is read from a house is a register that landing leaves, whatever is stored there
pub register_reachable : (h : ℕ) (n : Nursery) → Reachable (register_in h n)
unfolding register_in
register_reachable h n = go (held (stored_in h n)) refl
  where
    go : (o : Option Register) → held (stored_in h n) ≡ o → Reachable (register_in h n)
    go (some r) e = rw (e, register_in) (only_held (stored_in h n) r e).reachable
    go none e = rw (e, register_in) reachable_empty

pub left_reachable : (h : ℕ) (c : HouseCall) (n : Nursery) → Reachable (effect c (house_in h n)).leaves
unfolding house_in
left_reachable h c n = (does_house c (house_in h n) (history (register_reachable h n)) (record { reachable = register_reachable h n; history_is = refl })).left.reachable

-- ---- the other houses

other_untouched : (n : Nursery) (h g : ℕ) (r : Register) (k : ℕ) → g ≢ h → Sized houses n.tables → h < houses → Reachable r → Untouched g n (put_in h r k n)
unfolding put_in stored_in removals_in
other_untouched n h g r k d s l c =
    record {
      stored_same = stored_parts (house_other h (tables_of r) n.tables l (one_house r c) s g d) (get_or-set_other n.heads h g _ no_counts d);
      removals_same = get_or-set_other n.removals h g k 0 d;
      shares_same = refl;
    }

-- "landing in one house alters no sheet of another": no call for house h does
pub frame : (h : ℕ) (c : HouseCall) (l : Lent) (g : ℕ) → g ≢ h → Untouched g l.nursery (step (in_house h c) l).lent.nursery
unfolding does
frame h c l g d = go (barred (in_house h c) l) refl
  where
    same : Untouched g l.nursery l.nursery
    same = record { stored_same = refl; removals_same = refl; shares_same = refl }

    go : (x : Option ℕ) → barred (in_house h c) l ≡ x → Untouched g l.nursery (step (in_house h c) l).lent.nursery
    go (some x) e = rw (step_barred (in_house h c) l x e) same
    go none e =
        let o = is_open (in_house h c) l e in
        rw (step_open (in_house h c) l e) (other_untouched l.nursery h g _ _ d o.sized (open_inside h c l o) (left_reachable h c l.nursery))

-- ---- the own house

nursery_parts : {t t' : Tables} {c c' : List Counts} {k k' x x' : List ℕ} → t ≡ t' → c ≡ c' → k ≡ k' → x ≡ x'
    → ◌≡◌ {A = Nursery} (record { tables = t; heads = c; removals = k; shares = x }) (record { tables = t'; heads = c'; removals = k'; shares = x' })
nursery_parts p q r s = λ i. record { tables = p i; heads = q i; removals = r i; shares = s i }

-- what is put there is stored there
pub stored_put : (h : ℕ) (r : Register) (k : ℕ) (n : Nursery) → h < houses → length n.heads ≡ houses → Sized houses n.tables → Reachable r
    → stored_in h (put_in h r k n) ≡ stored_of r
unfolding stored_in put_in stored_of
stored_put h r k n l e s c =
    stored_parts (house_own h (tables_of r) n.tables l (one_house r c) s) (get_or-set_same n.heads h (counts_of r) no_counts (omega (arith, l, e)))

pub removals_put : (h : ℕ) (r : Register) (k : ℕ) (n : Nursery) → h < length n.removals → removals_in h (put_in h r k n) ≡ k
unfolding removals_in put_in
removals_put h r k n l = get_or-set_same n.removals h k 0 l

-- what is held put there again: for a call that only reads
pub put_same : (h : ℕ) (n : Nursery) (r : Register) → held (stored_in h n) ≡ some r → put_in h r (removals_in h n) n ≡ n
unfolding put_in stored_in removals_in stored_of
put_same h n r e =
    let i = (only_held (stored_in h n) r e).stored_is in
    let t : tables_in h n.tables ≡ tables_of r = ap (λ (x : Stored). x.tables) i in
    let c : get_or n.heads h no_counts ≡ counts_of r = ap (λ (x : Stored). x.counts) i in
    nursery_parts
    (ap (λ (x : Tables). put_tables h x n.tables) (sym t) ∙ house_same h n.tables)
    (ap (λ (x : Counts). set n.heads h x) (sym c) ∙ set-get_or n.heads h no_counts)
    (set-get_or n.removals h 0)
    refl

-- a call that leaves the register and the count that it finds changes nothing, whatever is lent
pub quiet_step : (h : ℕ) (c : HouseCall) (l : Lent) → is_own (own_of (in_house h c)) h ≡ false → (effect c (house_in h l.nursery)).leaves ≡ register_in h l.nursery
    → (effect c (house_in h l.nursery)).removals ≡ removals_in h l.nursery → (step (in_house h c) l).lent.nursery ≡ l.nursery
unfolding does
quiet_step h c l i r k = go (barred (in_house h c) l) refl
  where
    go : (x : Option ℕ) → barred (in_house h c) l ≡ x → (step (in_house h c) l).lent.nursery ≡ l.nursery
    go (some x) e = rw (step_barred (in_house h c) l x e)
    go none e =
        let o = is_open (in_house h c) l e in
        rw (step_open (in_house h c) l e, r, k) (put_same h l.nursery _ (o.held_all h (open_inside h c l o) i))

-- a question does
pub question_quiet : (h : ℕ) (q : Ask) (l : Lent) → (step (in_house h (asks q)) l).lent.nursery ≡ l.nursery
unfolding own_of grown_by is_own effect house_in
question_quiet h q l = quiet_step h (asks q) l refl refl refl
