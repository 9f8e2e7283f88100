-- In the groups after one more edge: a closed course goes round.
use mathlib.Core.Path.{◌≡◌, refl, sym, ap, ◌∙◌}
use mathlib.Core.Logic.{◌≢◌, ◌⊎◌, inl, inr}
use Prim.Native.Nat.{ℕ, ◌<◌}
use native.Mathlib.Omega.{arith}
use native.Mathlib.Decide.{ℕ_discrete}
use mathlib.Core.Bool.{false}
use lib.ListN.{length}
use Rattle.model.specs.Graph.{degree, ends_at, far}
use Rattle.model.proofs.Basics.Booleans.{not_both}
use Rattle.model.proofs.Walks.Degree.{degree_snoc, ends_at_le, zero_or_one}
use Rattle.model.proofs.Walks.Turn.{At, OneEdge, one_edge_lem}
use Rattle.model.proofs.Walks.Joins.{across, far_ne}
use Rattle.model.proofs.Walks.NewEdge.{at_new, at_last, Which, is_new, is_old, which}
use Rattle.theory.proofs.Groups.Shape.{size, size_none, Successive, successive_or, NextRound}
use Rattle.theory.proofs.Groups.Ends.{Closes}
use Rattle.theory.proofs.Groups.Grown.{Growth, grown_to, Seen, seen_new, seen_y, seen_o, size_x, size_o, far_new, x_or_y, old_end, open_gx, open_o}

module _ (it : Growth) where
  open it use {es, p, pr, d, h, w, gx, gy, x, y, b, s}
  open grown_to it use {new, h'}

  -- where the edge closes gx there is no group after it
  none_y : b ≡ false → size h (length es) gy ≡ 0
  none_y f = size_none h (length es) gy (λ e i q. not_both _ (s.low.open_y e i q).1 f)

  -- the new edge, and the edge at its high end
  from_new : b ≡ false → NextRound new h' (length es)
  from_new f =
      let c : Closes es h gx y = s.low.closes f in
      let o = seen_o it c.c gx s.differ c.at.inside c.group_is in
      let fy : far new (length es) (h'.low (length es)) ≡ y = ap (λ (v : ℕ). far new (length es) v) (seen_new it).low_is ∙ far_new it in
      record {
        hi = c.c;
        hi_at = rw fy (at_new es p c.at);
        hi_group = o.group_is ∙ sym (seen_new it).group_is;
        hi_end = rw fy (o.low_is ∙ c.low_is);
        place_is = inr (rw ((seen_new it).group_is, (seen_new it).place_is, size_x it) (omega (arith, none_y f)), o.place_is ∙ c.place_is);
      }

  -- an old edge of the group that is closed
  module _ (f : b ≡ false) (e : ℕ) (i : e < length es) (q : h.group e ≡ gx) where
    v : ℕ
    v = far es e (h.low e)

    a : At es v e
    unfolding v
    a = (across es e (h.low e) pr (w.ends e i)).at

    o : Seen it e gx (h.place e) (h.low e)
    o = seen_o it e gx s.differ i q

    next_old : degree es v ≡ 2 → NextRound new h' e
    unfolding v
    next_old c = go (successive_or es h v gx e pr c u a)
      where
        u : Successive es h v gx
        u = rw q at (w.between v e c a (rw q (s.high.open_x e i q)))

        go : (e ≡ u.lo) ⊎ (e ≡ u.hi) → NextRound new h' e
        go (inr z) = absurd (far_ne es e (h.low e) pr (w.ends e i) (sym (ap h.low z ∙ u.hi_end)))
        go (inl z) =
            let k = seen_o it u.hi gx s.differ u.hi_at.inside u.hi_group in
            record {
              hi = u.hi;
              hi_at = rw (old_end it e i) (at_new es p u.hi_at);
              hi_group = k.group_is ∙ sym o.group_is;
              hi_end = rw (old_end it e i) (k.low_is ∙ u.hi_end);
              place_is = inl (omega (arith, k.place_is, o.place_is, u.step, ap h.place z));
            }

    next_end : degree es v ≡ 1 → (v ≡ x) ⊎ (v ≡ y) → NextRound new h' e
    unfolding v
    next_end c (inl z) =
        let k = s.high.x_one e (rw z at c) (rw z at a) in
        record {
          hi = length es;
          hi_at = rw (old_end it e i, z) (at_last es p s.high.x_end);
          hi_group = (seen_new it).group_is ∙ sym o.group_is;
          hi_end = rw (old_end it e i, z) (seen_new it).low_is;
          place_is = inl (omega (arith, (seen_new it).place_is, o.place_is, k.2));
        }
    next_end c (inr z) =
        let k : Closes es h gx y = s.low.closes f in
        let one : OneEdge es y = one_edge_lem es y pr k.leaf in
        let e_is : e ≡ k.c = one.only e (rw z at a) ∙ sym (one.only k.c k.at) in
        absurd (far_ne es e (h.low e) pr (w.ends e i) (z ∙ sym k.low_is ∙ sym (ap h.low e_is)))

    next_x : degree new v ≡ 2 → NextRound new h' e
    next_x c = go (zero_or_one (ends_at v p) (ends_at_le v p d))
      where
        go : (ends_at v p ≡ 0) ⊎ (ends_at v p ≡ 1) → NextRound new h' e
        go (inl z) = next_old (omega (arith, degree_snoc es p v))
        go (inr z) = next_end (omega (arith, degree_snoc es p v)) (x_or_y it v z)

  -- an old edge of another closed group
  next_o : (e : ℕ) → e < length es → h.group e ≢ gx → h.group e ≢ gy → h.is_open (h.group e) ≡ false → degree new (far es e (h.low e)) ≡ 2 → NextRound new h' e
  next_o e i nx ny f c = go (zero_or_one (ends_at v p) (ends_at_le v p d))
    where
      v : ℕ
      v = far es e (h.low e)

      a : At es v e
      a = (across es e (h.low e) pr (w.ends e i)).at

      o : Seen it e (h.group e) (h.place e) (h.low e)
      o = seen_o it e (h.group e) ny i refl

      go : (ends_at v p ≡ 0) ⊎ (ends_at v p ≡ 1) → NextRound new h' e
      go (inr z) = absurd (not_both _ (w.leaf_open v e (omega (arith, degree_snoc es p v)) a) f)
      go (inl z) =
          let r : NextRound es h e = w.round e i f (omega (arith, degree_snoc es p v)) in
          let k = seen_o it r.hi (h.group e) ny r.hi_at.inside r.hi_group in
          record {
            hi = r.hi;
            hi_at = rw (old_end it e i) (at_new es p r.hi_at);
            hi_group = k.group_is ∙ sym o.group_is;
            hi_end = rw (old_end it e i) (k.low_is ∙ r.hi_end);
            place_is = rw (k.place_is, o.place_is, o.group_is, size_o it (h.group e) nx ny) r.place_is;
          }

  -- behind every edge of a closed course comes the next one, round
  pub round' : (e : ℕ) → e < length new → h'.is_open (h'.group e) ≡ false → degree new (far new e (h'.low e)) ≡ 2 → NextRound new h' e
  unfolding v
  round' e l f c = go (which es p e l)
    where
      old : (i : e < length es) → h'.is_open (h'.group e) ≡ false → degree new (far es e (h.low e)) ≡ 2 → NextRound new h' e
      old i f c = go (ℕ_discrete (h.group e) gy) (ℕ_discrete (h.group e) gx)
        where
          go : Dec (h.group e ≡ gy) → Dec (h.group e ≡ gx) → NextRound new h' e
          go (yes q) z =
              let g : h'.is_open gx ≡ false = rw (seen_y it e i q).group_is at f in
              absurd (not_both _ (s.low.open_y e i q).1 (sym (open_gx it) ∙ g))
          go (no q) (yes z) =
              let g : h'.is_open gx ≡ false = rw (seen_o it e gx s.differ i z).group_is at f in
              next_x (sym (open_gx it) ∙ g) e i z c
          go (no q) (no z) =
              let g : h'.is_open (h.group e) ≡ false = rw (seen_o it e (h.group e) q i refl).group_is at f in
              next_o e i z q (sym (open_o it (h.group e) z) ∙ g) c

      go : Which es p e → NextRound new h' e
      go (is_new i) =
          let g : h'.is_open gx ≡ false = rw (i, (seen_new it).group_is) at f in
          rw i (from_new (sym (open_gx it) ∙ g))
      go (is_old i) = old i f (rw (old_end it e i) at c)
