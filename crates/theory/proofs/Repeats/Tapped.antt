-- A tap may relabel a vertex of its ring once more: the ring had room for it, is no ring now, and its chain has no leaf.
use mathlib.Core.Path.{◌≡◌}
use mathlib.Core.Logic.{◌≢◌}
use Prim.Native.Nat.{ℕ, suc, ◌*◌, ◌≤◌, ◌<◌}
use native.Mathlib.Omega.{arith}
use native.Mathlib.Nat.{mul-le-mul_right}
use mathlib.Core.List.{List, [], ◌∷◌, ◌++◌, Memᴰ as Mem}
use lib.ListN.{length}
use Rattle.model.specs.Graph.{Edge, Pass, degree, ends_at, far, once_round}
use Rattle.model.proofs.Walks.Degree.{Proper, degree_snoc, proper_snoc}
use Rattle.model.proofs.Walks.Turn.{At, some_edge}
use Rattle.model.proofs.Walks.Joins.{across}
use Rattle.model.proofs.Walks.Trail.{afters}
use Rattle.model.proofs.Walks.NewEdge.{length_new, at_new, old_edge}
use Rattle.model.proofs.Walks.Places.{InPath}
use Rattle.model.proofs.Walks.Ended.{first_short}
use Rattle.model.proofs.Walks.Tours.{Tour, OnTour, is_of, ring_tour, tour_two, tour_ring, tour_follow, tours_meet, edge_on, end_on}
use Rattle.theory.proofs.Repeats.Before.{ToLeaf, before}
use Rattle.theory.proofs.Repeats.Rounds.{stays, d_in}
use Rattle.theory.proofs.Repeats.Room.{Room}

double_square : (k n : ℕ) → k ≤ n → 2 * k ≤ suc n * suc n
double_square k n l = omega (arith, l, mul-le-mul_right (suc n) (let z : 1 ≤ suc n = omega arith in z))

-- the edge meets x, and v is another vertex of x's ring, which it does not meet
module _ (es : List Edge) (p : Edge) (pr : Proper es) (ne : p.first ≢ p.second) {x d q : ℕ} {path : List Pass} (t : Tour es x d q path) (ox : ends_at x p ≡ 1) {v : ℕ} (f : InPath path v) (z : ends_at v p ≡ 0) where
  abbrev new : List Edge
  new = es ++ (p ∷ [])

  on_v : OnTour pr t v
  on_v = is_of f

  two : degree es v ≡ 2
  two = tour_two pr t v on_v

  -- v's own round, along any of its edges, and that it is shorter than the list
  own : (e : ℕ) → At es v e → (q' : ℕ) × Tour es v e q' (once_round es e v)
  own e a = ring_tour es pr e v (tour_ring pr t e (edge_on pr t v e on_v a) a.inside) a

  own_short : (e : ℕ) → At es v e → length (once_round es e v) < length es
  own_short e a = let r = (own e a).1 in first_short es pr (across es e v pr a).at r.trail r.off

  -- no walk from v leads to a leaf: before the edge it kept to the ring
  no_leaf : (e : ℕ) → At new v e → ToLeaf new e (far new e v) → ⊥
  no_leaf e a l =
      let b : ToLeaf es e (far es e v) = (before es p pr ne z a l).0 in
      let a' : At es v e = old_edge es p v e z a in
      omega (arith, b.leaf, tour_two pr t b.to (tour_follow pr t (edge_on pr t v e on_v a') (across es e v pr a').at b.trail))

  -- nor has v a round now, which would come to x
  no_round : (e r : ℕ) (ss : List Pass) → Tour new v e r ss → ⊥
  no_round e r ss u =
      let a : At es v e = old_edge es p v e z u.d_at in
      let o = own e a in
      let x_on : OnTour pr o.1 x = tours_meet pr o.1 t f in
      let m : Mem d (e ∷ afters (once_round es e v)) = edge_on pr o.1 x d x_on t.d_at in
      let n = stays es p pr ne u two (d_in es p pr ne u two) (across es e v pr a).at o.1.trail d m in
      let c : degree new x ≡ 2 = tour_two (proper_snoc es p pr ne) u x (end_on (proper_snoc es p pr ne) u d x n (at_new es p t.d_at)) in
      omega (arith, c, degree_snoc es p x, t.two)

  -- the room around a vertex of a ring that is tapped doubles
  pub room_tapped : {k : ℕ} → Room es v k → Room (es ++ (p ∷ [])) v (2 * k)
  room_tapped {k} o =
      let s = some_edge es v pr two in
      let r = own s.0 s.1 in
      let l : k ≤ length es = omega (arith, o.on_ring s.0 r.0 (once_round es s.0 v) r.1, own_short s.0 s.1) in
      record {
        not_yet = λ h. absurd (omega (arith, degree_snoc es p v, two));
        always = λ h. rw (length_new es p) (double_square k (length es) l);
        to_leaf = λ e c a w. absurd (no_leaf e a w);
        two_leaves = λ c e h a a' n b. absurd (no_leaf c a b.one);
        on_ring = λ e r ss u. absurd (no_round e r ss u);
      }
