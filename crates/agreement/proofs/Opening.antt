-- The ends of a new edge, once regular ones are split: an isolated one gets the edge, a branch and a leaf are left.
use mathlib.Core.Path.{◌≡◌, refl, sym, ap, ◌∙◌}
use mathlib.Core.Logic.{◌≢◌, ◌⊎◌, inl, inr}
use Prim.Native.Nat.{ℕ, ◌+◌, ◌*◌, ◌<◌}
use native.Mathlib.Omega.{arith}
use native.Mathlib.Decide.{ℕ_discrete}
use mathlib.Core.List.{List, [], ◌∷◌, ◌++◌}
use lib.ListN.{length, get_or}
use Rattle.model.specs.Basics.{max_vertices}
use Rattle.model.specs.Graph.{Edge, degree, ends_at, only_edge}
use Rattle.model.specs.Labels.{Marks}
use Rattle.placement.specs.Placing.{meet_in}
use Rattle.placement.proofs.Places.{meet_isolated, meet_left}
use Rattle.model.proofs.Walks.Degree.{Proper, degree_snoc, proper_snoc, two_ends}
use Rattle.model.proofs.Walks.NewEdge.{at_last}
use Rattle.model.proofs.Walks.Turn.{only_edge_is}
use Rattle.agreement.proofs.Lists.{PairAt, length_pair, pair_here, pair_other}
use Rattle.agreement.proofs.Linked.{Linked, linked_old, linked_same, off_ends}
use Rattle.agreement.proofs.Laying.{HoldsMarks}
use Rattle.agreement.proofs.Splitting.{SplitAs}

-- ---- the edge comes to x

module _ (degrees sides : List ℕ) (x e : ℕ) where
  meet_same : get_or degrees x 0 ≢ 0 → meet_in degrees sides x e ≡ sides
  meet_same n = sym (meet_left degrees sides x e n)

  meet_zero : get_or degrees x 0 ≡ 0 → 2 * x + 1 < length sides → PairAt (meet_in degrees sides x e) x e 0
  meet_zero z l = rw (← meet_isolated degrees sides x e z) (pair_here sides x e 0 l)

  meet_other : (v : ℕ) → v ≢ x → PairAt (meet_in degrees sides x e) v (get_or sides (2 * v) 0) (get_or sides (2 * v + 1) 0)
  meet_other v n = go (ℕ_discrete (get_or degrees x 0) 0)
    where
      go : Dec (get_or degrees x 0 ≡ 0) → PairAt (meet_in degrees sides x e) v (get_or sides (2 * v) 0) (get_or sides (2 * v + 1) 0)
      go (yes z) = rw (← meet_isolated degrees sides x e z) (pair_other sides x v e 0 n)
      go (no z) = rw (meet_same z) (refl, refl)

  meet_long : length (meet_in degrees sides x e) ≡ length sides
  meet_long = go (ℕ_discrete (get_or degrees x 0) 0)
    where
      go : Dec (get_or degrees x 0 ≡ 0) → length (meet_in degrees sides x e) ≡ length sides
      go (yes z) = rw (← meet_isolated degrees sides x e z) (length_pair sides x e 0)
      go (no z) = rw (meet_same z)

-- ---- both ends

-- the tables after both ends of edge n are opened
pub record OpenedBoth (es : List Edge) (n : Edge) (sides labels : List ℕ) (m : Marks) : Type 0 where
  -- all is as the new list says, but for a leaf of before, which is as the old list says
  pub kept : HoldsMarks (es ++ (n ∷ [])) (λ v. ends_at v n ≡ 1 → degree es v ≢ 1) sides labels m
  pub leaf : (x : ℕ) → ends_at x n ≡ 1 → degree es x ≡ 1 → get_or sides (2 * x) 0 ≡ only_edge es x

module _ (es : List Edge) (n : Edge) (pr : Proper es) (df : n.first ≢ n.second) (degrees sides labels : List ℕ) (m : Marks)
    (x y : ℕ) (ox : ends_at x n ≡ 1) (oy : ends_at y n ≡ 1) (xy : x ≢ y) (lx : x < max_vertices) (ly : y < max_vertices)
    (ds : (v : ℕ) → v < max_vertices → get_or degrees v 0 ≡ degree es v)
    (S : ℕ → Type 0) (k : SplitAs es S sides labels m) (only : (v : ℕ) → S v → (ends_at v n ≡ 1) × (degree es v ≡ 2)) (all : (v : ℕ) → ends_at v n ≡ 1 → degree es v ≡ 2 → S v) where
  abbrev new : List Edge
  new = es ++ (n ∷ [])

  abbrev s₁ : List ℕ
  s₁ = meet_in degrees sides x (length es)

  abbrev s₂ : List ℕ
  s₂ = meet_in degrees s₁ y (length es)

  yx : y ≢ x
  yx e = xy (sym e)

  long : length sides ≡ 2 * max_vertices
  long = k.kept.sides_long

  abbrev Left : ℕ → Type 0
  Left v = PairAt s₂ v (get_or sides (2 * v) 0) (get_or sides (2 * v + 1) 0)

  left_off : (v : ℕ) → v ≢ x → v ≢ y → Left v
  left_off v a b = let p = meet_other degrees s₁ y (length es) v b in let q = meet_other degrees sides x (length es) v a in (p.0 ∙ q.0, p.1 ∙ q.1)

  left_x : degree es x ≢ 0 → Left x
  left_x z =
      let p = meet_other degrees s₁ y (length es) x xy in
      let q : s₁ ≡ sides = meet_same degrees sides x (length es) (λ q. z (sym (ds x lx) ∙ q)) in
      (p.0 ∙ ap (λ (l : List ℕ). get_or l (2 * x) 0) q, p.1 ∙ ap (λ (l : List ℕ). get_or l (2 * x + 1) 0) q)

  left_y : degree es y ≢ 0 → Left y
  left_y z =
      let q = meet_other degrees sides x (length es) y yx in
      rw (meet_same degrees s₁ y (length es) (λ q. z (sym (ds y ly) ∙ q))) q

  zero_x : degree es x ≡ 0 → PairAt s₂ x (length es) 0
  zero_x z =
      let p = meet_other degrees s₁ y (length es) x xy in
      let q = meet_zero degrees sides x (length es) (ds x lx ∙ z) (omega (arith, long)) in
      (p.0 ∙ q.0, p.1 ∙ q.1)

  zero_y : degree es y ≡ 0 → PairAt s₂ y (length es) 0
  zero_y z = meet_zero degrees s₁ y (length es) (ds y ly ∙ z) (omega (arith, long, meet_long degrees sides x (length es)))

  -- an end that was no leaf
  at_end : (z : ℕ) → ends_at z n ≡ 1 → z < max_vertices → (degree es z ≡ 0 → PairAt s₂ z (length es) 0) → (degree es z ≢ 0 → Left z) → degree es z ≢ 1 → Linked new s₂ m.lows z
  at_end z o b zero rest nl = go (ℕ_discrete (degree es z) 0) (ℕ_discrete (degree es z) 2)
    where
      more : degree new z ≡ degree es z + 1
      more = omega (arith, degree_snoc es n z)

      no_sides : degree es z ≢ 0 → PairAt s₂ z 0 0 → Linked new s₂ m.lows z
      no_sides nz p = record {
        low_at_lem = λ q. absurd (nl (omega (arith, more)));
        regular = λ q. absurd (nl (omega (arith, more)));
        leaf = λ q. absurd (nz (omega (arith, more)));
        other = λ _ _. p;
      }

      go : Dec (degree es z ≡ 0) → Dec (degree es z ≡ 2) → Linked new s₂ m.lows z
      go (yes q) d =
          let p = zero q in
          record {
            low_at_lem = λ t. absurd (omega (arith, more));
            regular = λ t. absurd (omega (arith, more));
            leaf = λ t. (p.0 ∙ sym (only_edge_is new z (length es) (proper_snoc es n pr df) t (at_last es n o)), p.1);
            other = λ t _. absurd (t (omega (arith, more)));
          }
      go (no q) (yes t) = let p = rest q in let w = k.off z b (all z o t) in no_sides q (p.0 ∙ w.0, p.1 ∙ w.1)
      go (no q) (no t) = let p = rest q in let w = (k.kept.links z b (λ s. t (only z s).1)).other nl t in no_sides q (p.0 ∙ w.0, p.1 ∙ w.1)

  links : (v : ℕ) → v < max_vertices → (ends_at v n ≡ 1 → degree es v ≢ 1) → Dec (v ≡ x) → Dec (v ≡ y) → Linked new s₂ m.lows v
  links v b r (yes e) d = rw e (at_end x ox lx zero_x left_x (rw e at (r (rw e ox))))
  links v b r (no a) (yes e) = rw e (at_end y oy ly zero_y left_y (rw e at (r (rw e oy))))
  links v b r (no a) (no c) =
      let z : ends_at v n ≡ 0 = off_ends n x y v df ox oy xy a c in
      linked_same new sides s₂ m.lows m.lows v (left_off v a c) refl (linked_old es n pr v z sides m.lows (k.kept.links v b (λ s. omega (arith, z, (only v s).0))))

  still : (z : ℕ) → ends_at z n ≡ 1 → degree es z ≡ 1 → (z ≡ x) ⊎ (z ≡ y) → get_or s₂ (2 * z) 0 ≡ only_edge es z
  still z o one (inl e) =
      rw e ((left_x (λ q. omega (arith, rw e at one, q))).0 ∙ ((k.kept.links x lx (λ s. omega (arith, (only x s).1, rw e at one))).leaf (rw e at one)).0)
  still z o one (inr e) =
      rw e ((left_y (λ q. omega (arith, rw e at one, q))).0 ∙ ((k.kept.links y ly (λ s. omega (arith, (only y s).1, rw e at one))).leaf (rw e at one)).0)

  -- opening both ends leaves the tables so, whichever comes first
  pub opened_both : OpenedBoth es n (meet_in degrees (meet_in degrees sides x (length es)) y (length es)) labels m
  opened_both = record {
    kept = record {
      labels_are = k.kept.labels_are;
      links = λ v b r. links v b r (ℕ_discrete v x) (ℕ_discrete v y);
      sides_long = meet_long degrees s₁ y (length es) ∙ meet_long degrees sides x (length es) ∙ long;
      lows_long = k.kept.lows_long;
    };
    leaf = λ z o one. still z o one (two_ends n x y z ox oy xy o);
  }
