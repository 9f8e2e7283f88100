-- In the groups after one more edge: where leaves and regular vertices stand.
use mathlib.Core.Path.{◌≡◌, refl, sym, ◌∙◌}
use mathlib.Core.Logic.{◌≢◌, ◌⊎◌, inl, inr}
use Prim.Native.Nat.{ℕ, suc, ◌<◌}
use native.Mathlib.Omega.{arith}
use native.Mathlib.Decide.{ℕ_discrete}
use mathlib.Core.Bool.{true}
use lib.ListN.{length}
use Rattle.model.specs.Graph.{degree, ends_at}
use Rattle.model.proofs.Walks.Degree.{degree_snoc, ends_at_le, zero_or_one}
use Rattle.model.proofs.Walks.Turn.{At, OneEdge, one_edge_lem}
use Rattle.model.proofs.Walks.NewEdge.{at_new, at_old, at_last, last_at, Which, is_new, is_old, which, at_degree, old_edge}
use Rattle.theory.proofs.Groups.Shape.{size, LeafAt, at_low, at_high, Successive}
use Rattle.theory.proofs.Groups.Grown.{Growth, grown_to, goes_to, Seen, seen_new, seen_old, seen_y, seen_o, size_x, size_o, far_new, x_or_y, old_end, open_gx, open_o, was_open}

module _ (it : Growth) where
  open it use {es, p, pr, d, h, w, gx, gy, x, y, b, s}
  open grown_to it use {new, h'}

  -- a leaf at an old edge is no end of the new edge
  not_end : (z e : ℕ) → degree new z ≡ 1 → At es z e → ends_at z p ≡ 1 → ⊥
  not_end z e c a o = omega (arith, degree_snoc es p z, at_degree es z e a)

  was_leaf : (z e : ℕ) → degree new z ≡ 1 → At es z e → degree es z ≡ 1
  was_leaf z e c a = omega (arith, degree_snoc es p z, at_degree es z e a)

  pub record Leaf (z e : ℕ) : Type 0 where
    pub is_open : h'.is_open (h'.group e) ≡ true
    pub stands : LeafAt new h' z e

  leaf_new : (z : ℕ) → degree es z ≡ 0 → (z ≡ x) ⊎ (z ≡ y) → Leaf z (length es)
  leaf_new z c (inl q) =
      let f = s.high.x_zero (rw q at c) in
      record { is_open = rw (seen_new it).group_is (open_gx it ∙ f.0); stands = at_low ((seen_new it).low_is ∙ sym q) ((seen_new it).place_is ∙ f.1) }
  leaf_new z c (inr q) =
      let f = s.low.y_zero (rw q at c) in
      record {
        is_open = rw (seen_new it).group_is (open_gx it ∙ f.0);
        stands = at_high (rw (seen_new it).low_is (far_new it ∙ sym q)) (rw ((seen_new it).place_is, (seen_new it).group_is, size_x it) (omega (arith, f.1)));
      }

  leaf_x : (z e : ℕ) → degree new z ≡ 1 → (a : At es z e) → h.group e ≡ gx → LeafAt es h z e → Leaf z e
  leaf_x z e c a q (at_low i j) = go s.low.shut
    where
      o : Seen it e gx (h.place e) (h.low e)
      o = seen_o it e gx s.differ a.inside q

      go : (b ≡ true) ⊎ ((e : ℕ) → e < length es → h.group e ≡ gx → h.place e ≡ 0 → ends_at (h.low e) p ≡ 1) → Leaf z e
      go (inl t) = record { is_open = rw o.group_is (open_gx it ∙ t); stands = at_low (o.low_is ∙ i) (o.place_is ∙ j) }
      go (inr f) = absurd (not_end z e c a (rw i at (f e a.inside q j)))
  leaf_x z e c a q (at_high i j) = absurd (not_end z e c a (rw i at (s.high.x_seam e a.inside q (rw q at j))))

  leaf_y : (z e : ℕ) → degree new z ≡ 1 → (a : At es z e) → h.group e ≡ gy → LeafAt es h z e → Leaf z e
  leaf_y z e c a q (at_low i j) = absurd (not_end z e c a (rw i at (s.low.y_seam e a.inside q j)))
  leaf_y z e c a q (at_high i j) =
      let o = seen_y it e a.inside q in
      let j' : suc (h.place e) ≡ size h (length es) gy = rw q at j in
      record {
        is_open = rw o.group_is (open_gx it ∙ (s.low.open_y e a.inside q).1);
        stands = at_high (old_end it e a.inside ∙ i) (rw (o.place_is, o.group_is, size_x it) (omega arith));
      }

  leaf_o : (z e : ℕ) → degree es z ≡ 1 → (a : At es z e) → h.group e ≢ gx → h.group e ≢ gy → LeafAt es h z e → Leaf z e
  leaf_o z e c a q r (at_low i j) =
      let o = seen_o it e _ r a.inside refl in
      record { is_open = rw o.group_is (open_o it (h.group e) q ∙ w.leaf_open z e c a); stands = at_low (o.low_is ∙ i) (o.place_is ∙ j) }
  leaf_o z e c a q r (at_high i j) =
      let o = seen_o it e _ r a.inside refl in
      record {
        is_open = rw o.group_is (open_o it (h.group e) q ∙ w.leaf_open z e c a);
        stands = at_high (old_end it e a.inside ∙ i) (rw (o.place_is, o.group_is, size_o it (h.group e) q r) j);
      }

  -- every leaf stands at an end of its group's course, which is open
  pub leaf' : (z e : ℕ) → degree new z ≡ 1 → At new z e → Leaf z e
  leaf' z e c a = go (which es p e a.inside) (ℕ_discrete (h.group e) gx) (ℕ_discrete (h.group e) gy)
    where
      old : (i : e < length es) → LeafAt es h z e
      old i = w.leaf z e (was_leaf z e c (at_old es p i a)) (at_old es p i a)

      go : Which es p e → Dec (h.group e ≡ gx) → Dec (h.group e ≡ gy) → Leaf z e
      go (is_new i) u v =
          let a' : At new z (length es) = rw i at a in
          let o = last_at es p a' in
          rw i (leaf_new z (omega (arith, degree_snoc es p z)) (x_or_y it z o))
      go (is_old i) (yes q) v = leaf_x z e c (at_old es p i a) q (old i)
      go (is_old i) (no q) (yes r) = leaf_y z e c (at_old es p i a) r (old i)
      go (is_old i) (no q) (no r) = leaf_o z e (was_leaf z e c (at_old es p i a)) (at_old es p i a) q r (old i)

  -- an old regular vertex moves with its two edges
  unfoldable pub successive_old : (v g : ℕ) → Successive es h v g → Successive new h' v (goes_to it g)
  successive_old v g u =
      let l = seen_old it u.lo g u.lo_at.inside u.lo_group in
      let m = seen_old it u.hi g u.hi_at.inside u.hi_group in
      record {
        lo = u.lo;
        hi = u.hi;
        lo_at = at_new es p u.lo_at;
        hi_at = at_new es p u.hi_at;
        lo_group = l.group_is;
        hi_group = m.group_is;
        step = omega (arith, l.place_is, m.place_is, u.step);
        lo_end = old_end it u.lo u.lo_at.inside ∙ u.lo_end;
        hi_end = m.low_is ∙ u.hi_end;
      }

  -- the two ends, where they were leaves
  at_x : (e : ℕ) → degree es x ≡ 1 → At es x e → Successive new h' x gx
  at_x e c a =
      let f = s.high.x_one e c a in
      let o = seen_o it e gx s.differ a.inside f.0 in
      record {
        lo = e;
        hi = length es;
        lo_at = at_new es p a;
        hi_at = at_last es p s.high.x_end;
        lo_group = o.group_is;
        hi_group = (seen_new it).group_is;
        step = omega (arith, o.place_is, (seen_new it).place_is, f.2);
        lo_end = old_end it e a.inside ∙ f.1;
        hi_end = (seen_new it).low_is;
      }

  at_y : (e : ℕ) → b ≡ true → degree es y ≡ 1 → At es y e → Successive new h' y gx
  at_y e t c a =
      let f = s.low.y_one e t c a in
      let o = seen_y it e a.inside f.0 in
      record {
        lo = length es;
        hi = e;
        lo_at = at_last es p s.low.y_end;
        hi_at = at_new es p a;
        lo_group = (seen_new it).group_is;
        hi_group = o.group_is;
        step = omega (arith, o.place_is, (seen_new it).place_is, f.2);
        lo_end = rw (seen_new it).low_is (far_new it);
        hi_end = o.low_is ∙ f.1;
      }

  group_gx : (e : ℕ) → e < length es → (h.group e ≡ gx) ⊎ (h.group e ≡ gy) → h'.group e ≡ gx
  group_gx e i (inl q) = (seen_o it e gx s.differ i q).group_is
  group_gx e i (inr q) = (seen_y it e i q).group_is

  -- the edges at an end of the new edge that was a leaf are in group gx afterwards
  pub end_group : (v e : ℕ) → degree es v ≡ 1 → (v ≡ x) ⊎ (v ≡ y) → At new v e → h'.group e ≡ gx
  end_group v e c o a = go (which es p e a.inside) o
    where
      go : Which es p e → (v ≡ x) ⊎ (v ≡ y) → h'.group e ≡ gx
      go (is_new i) z = rw i (seen_new it).group_is
      go (is_old i) (inl z) = (seen_o it e gx s.differ i (s.high.x_one e (rw z at c) (rw z at (at_old es p i a))).0).group_is
      go (is_old i) (inr z) = group_gx e i (s.low.y_in e (rw z at c) (rw z at (at_old es p i a)))

  end_between : (v : ℕ) → degree es v ≡ 1 → b ≡ true → (v ≡ x) ⊎ (v ≡ y) → Successive new h' v gx
  end_between v c t (inl z) = rw z (let c' : degree es x ≡ 1 = rw z at c in let o : OneEdge es x = one_edge_lem es x pr c' in at_x o.edge c' o.at)
  end_between v c t (inr z) = rw z (let c' : degree es y ≡ 1 = rw z at c in let o : OneEdge es y = one_edge_lem es y pr c' in at_y o.edge t c' o.at)

  -- every regular vertex of an open group lies between two edges that follow each other
  pub between' : (v e : ℕ) → degree new v ≡ 2 → At new v e → h'.is_open (h'.group e) ≡ true → Successive new h' v (h'.group e)
  between' v e c a t = go (zero_or_one (ends_at v p) (ends_at_le v p d))
    where
      old : (z : ends_at v p ≡ 0) → At es v e → Successive new h' v (h'.group e)
      old z a' = rw (seen_old it e _ a'.inside refl).group_is (successive_old v (h.group e) (w.between v e (omega (arith, degree_snoc es p v)) a' (was_open it e a'.inside t)))

      go : (ends_at v p ≡ 0) ⊎ (ends_at v p ≡ 1) → Successive new h' v (h'.group e)
      go (inl z) = old z (old_edge es p v e z a)
      go (inr o) =
          let c' : degree es v ≡ 1 = omega (arith, degree_snoc es p v) in
          let q : h'.group e ≡ gx = end_group v e c' (x_or_y it v o) a in
          let t' : h'.is_open gx ≡ true = rw q at t in
          rw q (end_between v c' (sym (open_gx it) ∙ t') (x_or_y it v o))
