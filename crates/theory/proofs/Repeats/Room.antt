-- How often a vertex can have been relabelled, by the room around it; and that one more edge leaves this room where it does not relabel it.
-- k is 2 to the power of the number of times and 1, so it doubles each time.
use mathlib.Core.Path.{◌≡◌, refl, sym}
use mathlib.Core.Logic.{◌≢◌, ◌⊎◌, inl, inr}
use Prim.Native.Nat.{ℕ, suc, ◌+◌, ◌*◌, ◌≤◌}
use native.Mathlib.Omega.{arith}
use native.Mathlib.Nat.{mul-le-mul_left, mul-le-mul_right}
use native.Mathlib.Decide.{ℕ_discrete}
use mathlib.Core.List.{List, [], ◌∷◌, ◌++◌}
use lib.ListN.{length}
use Rattle.model.specs.Graph.{Edge, Pass, degree, ends_at, far}
use Rattle.model.specs.Notions.{leaf_room}
use Rattle.model.proofs.Walks.Degree.{Proper, degree_snoc, ends_at_le, proper_snoc, zero_or_one}
use Rattle.model.proofs.Walks.Turn.{At, OneEdge, one_edge_lem}
use Rattle.model.proofs.Walks.Joins.{far_ne}
use Rattle.model.proofs.Walks.Trail.{trail_nil}
use Rattle.model.proofs.Walks.NewEdge.{old_edge, length_new}
use Rattle.model.proofs.Walks.Tours.{Tour, q_at, q_not_d}
use Rattle.theory.proofs.Repeats.Before.{ToLeaf, TwoLeaves, before, edges_between}
use Rattle.theory.proofs.Repeats.Rounds.{Was, was, was_open, was_round}

-- On a chain between two leaves and on a ring k is at most the number of edges there. Where a walk leads to a leaf it is at most the number of
-- regular vertices up to that leaf, v included, times the number of all edges; and always at most the square of that number.
pub record Room (es : List Edge) (v k : ℕ) : Type 0 where
  pub not_yet : degree es v ≤ 1 → k ≡ 2
  pub always : 2 ≤ degree es v → k ≤ length es * length es
  pub to_leaf : (d : ℕ) → degree es v ≡ 2 → At es v d → (l : ToLeaf es d (far es d v)) → k ≤ leaf_room (length l.passes) (length es)
  pub two_leaves : (c d : ℕ) → degree es v ≡ 2 → At es v c → At es v d → c ≢ d → (b : TwoLeaves es c d v) → k ≤ edges_between b
  pub on_ring : (d q : ℕ) (path : List Pass) → Tour es v d q path → k ≤ length path + 1

-- ---- arithmetic

square_more : (k n : ℕ) → k ≤ n * n → k ≤ suc n * suc n
square_more k n l = omega (arith, l, mul-le-mul_left n (let z : n ≤ suc n = omega arith in z), mul-le-mul_right (suc n) (let z : n ≤ suc n = omega arith in z))

two_square : (n : ℕ) → 2 ≤ n → 2 ≤ n * n
two_square n h = omega (arith, mul-le-mul_left n h)

leaf_more : (k s t n : ℕ) → k ≤ leaf_room s n → s ≤ t → k ≤ leaf_room t (suc n)
unfolding leaf_room
leaf_more k s t n l h = omega (arith, l, mul-le-mul_left (s + 1) (let z : n ≤ suc n = omega arith in z), mul-le-mul_right (suc n) (let z : s + 1 ≤ t + 1 = omega arith in z))

two_leaf : (s n : ℕ) → 2 ≤ n → 2 ≤ leaf_room s n
unfolding leaf_room
two_leaf s n h = omega (arith, mul-le-mul_right n (let z : 1 ≤ s + 1 = omega arith in z))

-- a round has an edge more than the one on which it sets out
round_some : {es : List Edge} {v d q : ℕ} {path : List Pass} → Proper es → Tour es v d q path → 1 ≤ length path
round_some {path = []} pr t = absurd (far_ne _ _ _ pr t.d_at (trail_nil t.trail))
round_some {path = s ∷ ss} pr t = omega arith

-- ---- where v is not relabelled

module _ (es : List Edge) (p : Edge) (pr : Proper es) (ne : p.first ≢ p.second) (v : ℕ) where
  abbrev new : List Edge
  new = es ++ (p ∷ [])

  abbrev n : ℕ
  n = length es

  -- v is not regular with the edge
  room_singular : {k : ℕ} → degree new v ≢ 2 → (2 ≤ degree new v → k ≤ length new * length new) → (degree new v ≤ 1 → k ≡ 2) → Room new v k
  room_singular nr less f = record {
    not_yet = f;
    always = less;
    to_leaf = λ d c. absurd (nr c);
    two_leaves = λ c d q. absurd (nr q);
    on_ring = λ d q path t. absurd (nr t.two);
  }

  -- v becomes regular
  room_born : degree es v ≡ 1 → (e : ℕ) → At es v e → Room new v 2
  room_born c e a =
      let l : 2 ≤ length new = omega (arith, length_new es p, a.inside) in
      record {
        not_yet = λ h. refl;
        always = λ h. two_square (length new) l;
        to_leaf = λ d h b l'. two_leaf (length l'.passes) (length new) l;
        two_leaves = λ c' d h b b' q t. omega arith;
        on_ring = λ d q path t. omega (arith, round_some (proper_snoc es p pr ne) t);
      }

  -- v is regular before and after
  module _ (c : degree es v ≡ 2) (z : ends_at v p ≡ 0) {k : ℕ} (o : Room es v k) where
    old_at : (d : ℕ) → At new v d → At es v d
    old_at d a = old_edge es p v d z a

    leaf_still : (d : ℕ) → At new v d → (l : ToLeaf new d (far new d v)) → k ≤ leaf_room (length l.passes) (suc n)
    leaf_still d a l = let b = before es p pr ne z a l in leaf_more k (length b.0.passes) (length l.passes) n (o.to_leaf d c (old_at d a) b.0) b.1

    leaves_still : (e d : ℕ) → At new v e → At new v d → e ≢ d → (b : TwoLeaves new e d v) → k ≤ edges_between b
    leaves_still e d a a' q b =
        let x = before es p pr ne z a b.one in
        let y = before es p pr ne z a' b.other in
        omega (arith, o.two_leaves e d c (old_at e a) (old_at d a') q (record { one = x.0; other = y.0 }), x.1, y.1)

    round_still : (d q : ℕ) (path : List Pass) (t : Tour new v d q path) → Was es p pr ne t c → k ≤ length path + 1
    round_still d q path t (was_round q' path' r l) = omega (arith, o.on_ring d q' path' r, l)
    round_still d q path t (was_open b l) =
        let a : At es v q = old_at q (q_at (proper_snoc es p pr ne) t) in
        omega (arith, o.two_leaves d q c (old_at d t.d_at) a (λ e. q_not_d (proper_snoc es p pr ne) t (sym e)) b, l)

    room_regular : Room new v k
    room_regular = record {
      not_yet = λ h. absurd (omega (arith, degree_snoc es p v));
      always = λ h. rw (length_new es p) (square_more k n (o.always (omega arith)));
      to_leaf = λ d h a l. rw (length_new es p) (leaf_still d a l);
      two_leaves = λ e d h a a' q b. leaves_still e d a a' q b;
      on_ring = λ d q path t. round_still d q path t (was es p pr ne t c);
    }

  -- all together
  pub room_still : {k : ℕ} → Room es v k → Room (es ++ (p ∷ [])) v k
  room_still {k} o = go (zero_or_one (ends_at v p) (ends_at_le v p ne)) (ℕ_discrete (degree es v) 2) (ℕ_discrete (degree es v) 1)
    where
      more : 2 ≤ degree es v → k ≤ length new * length new
      more h = rw (length_new es p) (square_more k n (o.always h))

      go : (ends_at v p ≡ 0) ⊎ (ends_at v p ≡ 1) → Dec (degree es v ≡ 2) → Dec (degree es v ≡ 1) → Room new v k
      go (inl z) (yes c) b = room_regular c z o
      go (inr z) (yes c) b = room_singular (λ h. omega (arith, degree_snoc es p v)) (λ h. more (omega arith)) (λ h. absurd (omega (arith, degree_snoc es p v)))
      go (inl z) (no c) b = room_singular (λ h. c (omega (arith, degree_snoc es p v))) (λ h. more (omega (arith, degree_snoc es p v))) (λ h. o.not_yet (omega (arith, degree_snoc es p v)))
      go (inr z) (no c) (yes e) = let one : OneEdge es v = one_edge_lem es v pr e in rw (o.not_yet (omega arith)) (room_born e one.edge one.at)
      go (inr z) (no c) (no e) = room_singular (λ h. e (omega (arith, degree_snoc es p v))) (λ h. more (omega (arith, degree_snoc es p v))) (λ h. o.not_yet (omega (arith, degree_snoc es p v)))
