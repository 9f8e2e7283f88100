-- Ghost state: groups of edges. The edges of a group follow each other on a path, its course, which no split cuts.
use Rattle.std.specs.Prelude.{if◌then◌else◌}
use mathlib.Core.Path.{◌≡◌, refl, sym, ap, ◌∙◌}
use mathlib.Core.Logic.{◌≢◌, ◌⊎◌, inl, inr}
use Prim.Native.Nat.{ℕ, zero, suc, ◌+◌, ◌*◌, ◌≤◌, ◌<◌}
use native.Mathlib.Omega.{arith}
use native.Mathlib.Decide.{ℕ_discrete}
use native.Mathlib.Nat.{not-suc-le-zero, one-mul}
use mathlib.Core.Bool.{Bool, true, false}
use mathlib.Core.List.{List, []}
use lib.ListN.{length}
use lib.Dec.{eqb}
use borrow.Author.Tests.{eq-eqb, ne_eqb}
use Rattle.model.specs.Basics.{floor_log}
use Rattle.model.proofs.Basics.Booleans.{not_both}
use Rattle.model.specs.Graph.{Edge, degree, far, same}
use Rattle.model.proofs.Walks.Degree.{Proper}
use Rattle.model.proofs.Walks.Turn.{At, TwoEdges, two_edges, turn_between}
use Rattle.model.proofs.Basics.Counting.{same_ne, same_most}
use Rattle.model.proofs.Basics.Total.{total, total_same, total_zero, total_one, total_swap, total_const}

-- For each edge: its group, its place on the group's course (from 0), the vertex at its low end there.
-- For each group: the relabellings charged to it, whether its course is still open (not closed on itself), and whether it is a ring
-- that was not tapped yet.
pub record Shape : Type 0 where
  pub group : ℕ → ℕ
  pub place : ℕ → ℕ
  pub low : ℕ → ℕ
  pub spent : ℕ → ℕ
  pub is_open : ℕ → Bool
  pub is_ring : ℕ → Bool

-- the number of edges, of the first n, in group g
unfoldable pub size : Shape → ℕ → ℕ → ℕ
size h n g = total n (λ e. same (h.group e) g)

-- a choice by a number
unfoldable pub pick : {A : Type 0} → ℕ → ℕ → A → A → A
pick x y a b = if eqb x y then a else b

-- the first for equal numbers, the second for different ones
pub pick_yes : {A : Type 0} (x y : ℕ) (a b : A) → x ≡ y → pick x y a b ≡ a
unfolding pick
pick_yes x y a b e = rw (eq-eqb x y e)

pub pick_no : {A : Type 0} (x y : ℕ) (a b : A) → x ≢ y → pick x y a b ≡ b
unfolding pick
pick_no x y a b e = rw (ne_eqb x y e)

-- a group without edges has size 0
pub size_none : (h : Shape) (n g : ℕ) → ((e : ℕ) → e < n → h.group e ≢ g) → size h n g ≡ 0
unfolding size
size_none h n g no-e = total_same n _ (λ e. 0) (λ e l. same_ne (h.group e) g (no-e e l)) ∙ total_zero n

-- where a leaf stands on its group's course
pub data LeafAt (es : List Edge) (h : Shape) (x e : ℕ) : Type 0 where
  at_low : h.low e ≡ x → h.place e ≡ 0 → LeafAt es h x e
  at_high : far es e (h.low e) ≡ x → suc (h.place e) ≡ size h (length es) (h.group e) → LeafAt es h x e

-- a regular vertex of an open group lies between two edges that follow each other
pub record Successive (es : List Edge) (h : Shape) (v g : ℕ) : Type 0 where
  pub lo : ℕ
  pub hi : ℕ
  pub lo_at : At es v lo
  pub hi_at : At es v hi
  pub lo_group : h.group lo ≡ g
  pub hi_group : h.group hi ≡ g
  pub step : h.place hi ≡ suc (h.place lo)
  pub lo_end : far es lo (h.low lo) ≡ v
  pub hi_end : h.low hi ≡ v

-- edges that follow each other are two
pub successive_differ : {es : List Edge} {h : Shape} {v g : ℕ} (u : Successive es h v g) → u.lo ≢ u.hi
successive_differ {h = h} u z = let q : h.place u.lo ≡ h.place u.hi = ap h.place z in omega (arith, u.step)

-- it has no other edges
pub successive_or : (es : List Edge) (h : Shape) (v g e : ℕ) → Proper es → degree es v ≡ 2 → (u : Successive es h v g) → At es v e → (e ≡ u.lo) ⊎ (e ≡ u.hi)
successive_or es h v g e pr c u a = go (ℕ_discrete u.lo e)
  where
    t : TwoEdges es v
    t = two_edges es v pr c

    go : Dec (u.lo ≡ e) → (e ≡ u.lo) ⊎ (e ≡ u.hi)
    go (yes q) = inl (sym q)
    go (no q) = inr (sym (turn_between es v u.lo e t u.lo_at a q) ∙ turn_between es v u.lo u.hi t u.lo_at u.hi_at (successive_differ u))

-- round a closed course: the edge after e, where e's high end is regular
pub record NextRound (es : List Edge) (h : Shape) (e : ℕ) : Type 0 where
  pub hi : ℕ
  pub hi_at : At es (far es e (h.low e)) hi
  pub hi_group : h.group hi ≡ h.group e
  pub hi_end : h.low hi ≡ far es e (h.low e)
  pub place_is : (h.place hi ≡ suc (h.place e)) ⊎ ((suc (h.place e) ≡ size h (length es) (h.group e)) × (h.place hi ≡ 0))

-- The invariant of the groups: an open group is a course with its leaves at the ends, and every group has paid for its relabellings.
pub record Courses (es : List Edge) (relabellings : ℕ) (h : Shape) : Type 0 where
  -- each edge has a place of its own on its group's course
  pub below : (e : ℕ) → e < length es → h.group e < length es
  pub fits : (e : ℕ) → e < length es → h.place e < size h (length es) (h.group e)
  pub apart : (e d : ℕ) → e < length es → d < length es → h.group e ≡ h.group d → h.place e ≡ h.place d → e ≡ d
  pub ends : (e : ℕ) → e < length es → At es (h.low e) e
  -- a group with a leaf is open; leaves are at the ends of its course, and regular vertices inside
  pub leaf_open : (x e : ℕ) → degree es x ≡ 1 → At es x e → h.is_open (h.group e) ≡ true
  pub leaf : (x e : ℕ) → degree es x ≡ 1 → At es x e → LeafAt es h x e
  pub between : (v e : ℕ) → degree es v ≡ 2 → At es v e → h.is_open (h.group e) ≡ true → Successive es h v (h.group e)
  -- a closed group goes round
  pub round : (e : ℕ) → e < length es → h.is_open (h.group e) ≡ false → degree es (far es e (h.low e)) ≡ 2 → NextRound es h e
  pub ring_shut : (g : ℕ) → h.is_ring g ≡ true → h.is_open g ≡ false
  -- a group of s edges has spent at most s log s, and at least s - 1 less while it is open or a ring; all together have spent all relabellings
  pub cost : (g : ℕ) → h.spent g ≤ size h (length es) g * floor_log (size h (length es) g)
  pub cost_open : (g : ℕ) → h.is_open g ≡ true → h.spent g + size h (length es) g ≤ size h (length es) g * floor_log (size h (length es) g) + 1
  pub cost_ring : (g : ℕ) → h.is_ring g ≡ true → h.spent g + size h (length es) g ≤ size h (length es) g * floor_log (size h (length es) g) + 1
  pub sums : (m : ℕ) → length es ≤ m → total m h.spent ≡ relabellings

-- a place is below the size of its group
pub place_fits : {es : List Edge} {relabellings : ℕ} {h : Shape} → Courses es relabellings h → (e g : ℕ) → e < length es → h.group e ≡ g → h.place e < size h (length es) g
place_fits w e g l q = rw q at (w.fits e l)

-- one place, one vertex
pub successive_one : {es : List Edge} {relabellings : ℕ} {h : Shape} → Courses es relabellings h → {v z g : ℕ} (u : Successive es h v g) (t : Successive es h z g)
    → h.place u.hi ≡ h.place t.hi → v ≡ z
successive_one {h = h} w u t q =
    sym u.hi_end ∙ ap h.low (w.apart u.hi t.hi u.hi_at.inside t.hi_at.inside (u.hi_group ∙ sym t.hi_group) q) ∙ t.hi_end

-- groups that are not there yet
module _ {es : List Edge} {relabellings : ℕ} {h : Shape} (w : Courses es relabellings h) (g : ℕ) (l : length es ≤ g) where
  -- no edge is in a group that is not there yet: it has size 0, and has spent nothing
  pub group_fresh : (e : ℕ) → e < length es → h.group e ≢ g
  group_fresh e i q = omega (arith, w.below e i, q)

  pub size_fresh : size h (length es) g ≡ 0
  size_fresh = size_none h (length es) g group_fresh

  pub spent_fresh : h.spent g ≡ 0
  spent_fresh = let c : h.spent g ≤ 0 * floor_log 0 = rw size_fresh at (w.cost g) in omega (arith, c)

-- ---- no edges

-- the groups of no edges, and that they keep the invariant
unfoldable pub no_shape : Shape
no_shape = record { group = λ e. 0; place = λ e. 0; low = λ e. 0; spent = λ g. 0; is_open = λ g. true; is_ring = λ g. false }

pub no_courses : Courses [] 0 no_shape
unfolding no_shape size total
no_courses = record {
  below = λ e l. absurd (not-suc-le-zero l);
  fits = λ e l. absurd (not-suc-le-zero l);
  apart = λ e d l. absurd (not-suc-le-zero l);
  ends = λ e l. absurd (not-suc-le-zero l);
  leaf_open = λ x e c a. absurd (not-suc-le-zero a.inside);
  leaf = λ x e c a. absurd (not-suc-le-zero a.inside);
  between = λ v e c a o. absurd (not-suc-le-zero a.inside);
  round = λ e l. absurd (not-suc-le-zero l);
  ring_shut = λ g r. absurd (not_both _ r refl);
  cost = λ g. omega arith;
  cost_open = λ g o. omega arith;
  cost_ring = λ g o. omega arith;
  sums = λ m l. total_zero m;
}

-- ---- the sizes add up

-- a group has at most all edges
pub size_most : (h : Shape) (n g : ℕ) → size h n g ≤ n
unfolding size total
size_most h zero g = omega arith
size_most h (suc n) g = omega (arith, size_most h n g, same_most (h.group n) g)

-- the sizes of all groups add up to the number of edges
pub sizes_sum : (h : Shape) (n : ℕ) → ((e : ℕ) → e < n → h.group e < n) → total n (λ g. size h n g) ≡ n
unfolding size
sizes_sum h n below =
    total_swap n n (λ g e. same (h.group e) g)
    ∙ total_same n _ (λ e. 1) (λ e l. total_same n (λ g. same (h.group e) g) (λ g. same (h.group e) g * 1) (λ g m. omega arith) ∙ total_one n (h.group e) (λ g. 1) (below e l))
    ∙ total_const n 1 ∙ one-mul n
