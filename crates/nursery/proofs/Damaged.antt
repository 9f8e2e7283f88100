-- Document 02, S-10: "its 21 looks at every one, and holds too where the larger of share and pipes, summed over them, passes 4,096. A grow counts its
-- own house as empty there, and gives 21 for the rest": when 21 holds, and when it does not.
use Rattle.std.specs.Prelude.{if◌then◌else◌}
use mathlib.Core.Path.{◌≡◌, refl, sym, ap}
use mathlib.Core.Logic.{◌≢◌, ◌⊎◌, inl, inr}
use Prim.Native.Nat.{ℕ, zero, suc, ◌+◌, ◌≤◌, ◌<◌}
use native.Mathlib.Omega.{arith}
use mathlib.Core.Bool.{Bool, true, false, not, ◌||◌}
use mathlib.Core.Option.{Option, none, some}
use mathlib.Core.List.Memᴰ.{cases_cons as mem-cases}
use mathlib.Core.List.Memᴰ.{head as at_head}
use mathlib.Core.List.Memᴰ.{not-nil as mem-nil}
use mathlib.Core.List.Memᴰ.{tail as in_Tail}
use mathlib.Core.List.{List, [], ◌∷◌, Memᴰ as Mem}
use lib.ListN.{set}
use lib.Dec.{eqb}
use borrow.Author.Tests.{eqb-false, le-ltb, lt-ltb, ltb-true, ne_eqb}
use Rattle.model.specs.Basics.{count_from, sum, up_to}
use Rattle.model.specs.Register.{Register}
use Rattle.model.specs.Tables.{held}
use Rattle.model.proofs.Basics.Booleans.{not_both}
use Rattle.nursery.specs.Licence.{houses, licence, overfull, reserves}
use Rattle.nursery.specs.Nursery.{Nursery, edges_in, stored_in, vertices_in}
use Rattle.nursery.specs.Calls.{Call, Lent, all_fit, any_damaged, asks, barred, commits, edges_but, grown_by, grows, in_house, is_own, lands, not_grown, out_of_place, own_of, removes, sets_shares}
use Rattle.nursery.proofs.Gate.{damaged_21, overfull_21}

-- ---- which calls grow which house

-- a call that does not grow house g does not count it as empty
pub not_own : (c : Call) (g : ℕ) → ((bs : List ℕ) → c ≢ in_house g (grows bs)) → is_own (own_of c) g ≡ false
unfolding own_of grown_by is_own
not_own (in_house h (grows bs)) g d = ne_eqb g h (λ e. d bs (ap (λ (k : ℕ). in_house k (grows bs)) (sym e)))
not_own (in_house h (lands bs)) g d = refl
not_own (in_house h (commits q)) g d = refl
not_own (in_house h (removes e slice)) g d = refl
not_own (in_house h (asks q)) g d = refl
not_own (sets_shares shares) g d = refl

-- one that grows none counts all edges
all_edges : (c : Call) (edges : List ℕ) → ((h : ℕ) (bs : List ℕ) → c ≢ in_house h (grows bs)) → edges_but (own_of c) edges ≡ edges
unfolding own_of grown_by edges_but
all_edges (in_house h (grows bs)) edges d = absurd (d h bs refl)
all_edges (in_house h (lands bs)) edges d = refl
all_edges (in_house h (commits q)) edges d = refl
all_edges (in_house h (removes e slice)) edges d = refl
all_edges (in_house h (asks q)) edges d = refl
all_edges (sets_shares shares) edges d = refl

-- ---- a damaged house, where one is found

pub in_range : (at n g : ℕ) → Mem g (count_from at n) → g < at + n
unfolding count_from
in_range at zero g m = absurd (mem-nil m)
in_range at (suc n) g m = go (mem-cases m) (λ k. in_range (suc at) n g k)
  where
    go : (g ≡ at) ⊎ Mem g (count_from (suc at) n) → (Mem g (count_from (suc at) n) → g < suc at + n) → g < at + suc n
    go (inl e) ih = omega (arith, e)
    go (inr k) ih = omega (arith, ih k)

pub damaged_where : (own : Option ℕ) (n : Nursery) (hs : List ℕ) → any_damaged own n hs ≡ true
    → (g : ℕ) × Mem g hs × (is_own own g ≡ false) × (held (stored_in g n) ≡ none)
unfolding any_damaged
damaged_where own n [] e = absurd (not_both true refl (sym e))
damaged_where own n (h ∷ hs) e = go (is_own own h) refl (held (stored_in h n)) refl (λ z. damaged_where own n hs z)
  where
    Found : List ℕ → Type 0
    Found ks = (g : ℕ) × Mem g ks × (is_own own g ≡ false) × (held (stored_in g n) ≡ none)

    later : Found hs → Found (h ∷ hs)
    later f = (f.0, in_Tail f.1, f.2, f.3)

    go : (b : Bool) → is_own own h ≡ b → (o : Option Register) → held (stored_in h n) ≡ o → (any_damaged own n hs ≡ true → Found hs) → Found (h ∷ hs)
    go true q o k ih = later (ih (rw (q, any_damaged) at e))
    go false q (some r) k ih = later (ih (rw (q, any_damaged, k) at e))
    go false q none k ih = (h, at_head refl, q, k)

-- 21 is answered for one ground or the other
not_21 : (x : ℕ) → x ≢ 21 → some x ≢ some 21
not_21 x d e = d cc

abbrev gate : Bool → Bool → Bool → Option ℕ
gate a b p = if a then some 25 else if b then some 21 else if p then some 37 else none

by_21 : (a b p : Bool) → gate a b p ≡ some 21 → b ≡ true
by_21 true b p e = absurd (not_21 25 (λ z. omega (arith, z)) e)
by_21 false true p e = refl
by_21 false false true e = absurd (not_21 37 (λ z. omega (arith, z)) e)
by_21 false false false e = absurd (let z : ◌≡◌ {A = ℕ} 0 1 = cc in omega arith)

or_either : (a b : Bool) → (a || b) ≡ true → (a ≡ true) ⊎ (b ≡ true)
or_either true b e = inl refl
or_either false b e = inr e

for_21 : (c : Call) (l : Lent) → barred c l ≡ some 21
    → ((g : ℕ) × (g < houses) × (is_own (own_of c) g ≡ false) × (held (stored_in g l.nursery) ≡ none))
    ⊎ (licence < sum (reserves l.nursery.shares (edges_but (own_of c) (edges_in l.nursery))))
unfolding barred not_grown overfull up_to
for_21 c l e = go (or_either (any_damaged (own_of c) n (up_to houses)) (overfull n.shares (edges_but (own_of c) (edges_in n))) (by_21 (not (all_fit c l)) (not_grown (own_of c) n) (out_of_place c (vertices_in n)) e))
  where
    n : Nursery
    n = l.nursery

    go : (any_damaged (own_of c) l.nursery (up_to houses) ≡ true) ⊎ (overfull l.nursery.shares (edges_but (own_of c) (edges_in l.nursery)) ≡ true)
        → ((g : ℕ) × (g < houses) × (is_own (own_of c) g ≡ false) × (held (stored_in g l.nursery) ≡ none))
        ⊎ (licence < sum (reserves l.nursery.shares (edges_but (own_of c) (edges_in l.nursery))))
    go (inl d) = let f = damaged_where (own_of c) l.nursery (up_to houses) d in inl (f.0, in_range 0 houses f.0 f.1, f.2, f.3)
    go (inr o) = inr (ltb-true licence _ o)

-- ---- the claims

module _ (c : Call) (l : Lent) where
  pub damaged : (g : ℕ) → all_fit c l ≡ true → g < houses → ((bs : List ℕ) → c ≢ in_house g (grows bs)) → held (stored_in g l.nursery) ≡ none → barred c l ≡ some 21
  damaged g f i d h = damaged_21 c l g i (not_own c g d) h f

  pub overfull_sum : all_fit c l ≡ true → ((h : ℕ) (bs : List ℕ) → c ≢ in_house h (grows bs)) → licence < sum (reserves l.nursery.shares (edges_in l.nursery))
      → barred c l ≡ some 21
  unfolding overfull
  overfull_sum f d p = overfull_21 c l (rw (all_edges c (edges_in l.nursery) d) (lt-ltb licence _ p)) f

  pub only_21 : ((h : ℕ) (bs : List ℕ) → c ≢ in_house h (grows bs)) → barred c l ≡ some 21
      → ((g : ℕ) × (g < houses) × (held (stored_in g l.nursery) ≡ none)) ⊎ (licence < sum (reserves l.nursery.shares (edges_in l.nursery)))
  only_21 d e = go (for_21 c l e)
    where
      go : ((g : ℕ) × (g < houses) × (is_own (own_of c) g ≡ false) × (held (stored_in g l.nursery) ≡ none))
          ⊎ (licence < sum (reserves l.nursery.shares (edges_but (own_of c) (edges_in l.nursery))))
          → ((g : ℕ) × (g < houses) × (held (stored_in g l.nursery) ≡ none)) ⊎ (licence < sum (reserves l.nursery.shares (edges_in l.nursery)))
      go (inl f) = inl (f.0, f.1, f.3)
      go (inr p) = inr (rw (all_edges c (edges_in l.nursery) d) at p)

module _ (h : ℕ) (bs : List ℕ) (l : Lent) where
  pub grow_overfull : all_fit (in_house h (grows bs)) l ≡ true → licence < sum (reserves l.nursery.shares (set (edges_in l.nursery) h 0))
      → barred (in_house h (grows bs)) l ≡ some 21
  unfolding overfull own_of grown_by edges_but
  grow_overfull f p = overfull_21 (in_house h (grows bs)) l (lt-ltb licence _ p) f

  pub grow_21 : barred (in_house h (grows bs)) l ≡ some 21
      → ((g : ℕ) × (g < houses) × (g ≢ h) × (held (stored_in g l.nursery) ≡ none))
      ⊎ (licence < sum (reserves l.nursery.shares (set (edges_in l.nursery) h 0)))
  unfolding own_of grown_by is_own edges_but
  grow_21 e = go (for_21 (in_house h (grows bs)) l e)
    where
      go : ((g : ℕ) × (g < houses) × (eqb g h ≡ false) × (held (stored_in g l.nursery) ≡ none))
          ⊎ (licence < sum (reserves l.nursery.shares (set (edges_in l.nursery) h 0)))
          → ((g : ℕ) × (g < houses) × (g ≢ h) × (held (stored_in g l.nursery) ≡ none))
          ⊎ (licence < sum (reserves l.nursery.shares (set (edges_in l.nursery) h 0)))
      go (inl f) = inl (f.0, f.1, eqb-false f.0 h f.2, f.3)
      go (inr p) = inr p

  pub grow_free : all_fit (in_house h (grows bs)) l ≡ true → h < houses
      → ((g : ℕ) → g < houses → g ≢ h → held (stored_in g l.nursery) ≢ none)
      → sum (reserves l.nursery.shares (set (edges_in l.nursery) h 0)) ≤ licence → barred (in_house h (grows bs)) l ≡ none
  unfolding barred not_grown overfull own_of grown_by is_own edges_but out_of_place up_to
  grow_free f i d w = rw (f, go (any_damaged (some h) l.nursery (up_to houses)) refl, le-ltb licence _ w, lt-ltb h houses i)
    where
      go : (b : Bool) → any_damaged (some h) l.nursery (up_to houses) ≡ b → any_damaged (some h) l.nursery (up_to houses) ≡ false
      go false q = q
      go true q =
          let x = damaged_where (some h) l.nursery (up_to houses) q in
          absurd (d x.0 (in_range 0 houses x.0 x.1) (eqb-false x.0 h x.2) x.3)
