-- A group's course read from its other end.
use mathlib.Core.Path.{◌≡◌, refl, sym, ap, ◌∙◌}
use mathlib.Core.Logic.{◌≢◌}
use Prim.Native.Nat.{ℕ, suc, ◌+◌, ◌-◌, ◌<◌}
use native.Mathlib.Omega.{arith}
use native.Mathlib.Decide.{ℕ_discrete}
use mathlib.Core.Bool.{true, false}
use mathlib.Core.List.{List}
use lib.ListN.{length}
use Rattle.model.specs.Graph.{Edge, degree, far}
use Rattle.model.proofs.Basics.Booleans.{not_both}
use Rattle.model.proofs.Walks.Degree.{Proper}
use Rattle.model.proofs.Walks.Turn.{At}
use Rattle.theory.proofs.Groups.Shape.{Shape, size, pick, pick_yes, pick_no, LeafAt, at_low, at_high, Successive, NextRound, Courses, place_fits}
use Rattle.model.proofs.Walks.Joins.{across}

-- group g read from its other end
abbrev pub flipped : List Edge → Shape → ℕ → Shape
flipped es h g = record {
  group = h.group;
  place = λ e. pick (h.group e) g (size h (length es) g - suc (h.place e)) (h.place e);
  low = λ e. pick (h.group e) g (far es e (h.low e)) (h.low e);
  spent = h.spent;
  is_open = h.is_open;
  is_ring = h.is_ring;
}

module _ (es : List Edge) (h : Shape) (g : ℕ) where
  -- every group keeps its size
  pub flip_size : (n c : ℕ) → size (flipped es h g) n c ≡ size h n c
  unfolding size
  flip_size n c = refl

  -- edges of other groups keep their places
  pub keep_place : (e : ℕ) → h.group e ≢ g → (flipped es h g).place e ≡ h.place e
  keep_place e q = pick_no (h.group e) g _ _ q

  -- the low end of an edge of the group is what was its high end
  pub flip_low : (e : ℕ) → h.group e ≡ g → (flipped es h g).low e ≡ far es e (h.low e)
  flip_low e q = pick_yes (h.group e) g _ _ q

  -- edges of other groups keep their low ends
  pub keep_low : (e : ℕ) → h.group e ≢ g → (flipped es h g).low e ≡ h.low e
  keep_low e q = pick_no (h.group e) g _ _ q

module _ (es : List Edge) (pr : Proper es) {relabellings : ℕ} {h : Shape} (w : Courses es relabellings h) (g : ℕ) where
  abbrev h' : Shape
  h' = flipped es h g

  -- the two places of an edge of the group add up to its size less 1
  pub flip_place : (e : ℕ) → e < length es → h.group e ≡ g → (flipped es h g).place e + suc (h.place e) ≡ size h (length es) g
  flip_place e l q =
      let i : h'.place e ≡ size h (length es) g - suc (h.place e) = pick_yes (h.group e) g _ _ q in
      omega (arith, i, place_fits w e g l q)

  -- the high end of an edge of the group is what was its low end
  pub flip_high : (e : ℕ) → e < length es → h.group e ≡ g → far es e ((flipped es h g).low e) ≡ h.low e
  flip_high e l q = rw (flip_low es h g e q) (across es e (h.low e) pr (w.ends e l)).again

  fits' : (e : ℕ) → e < length es → h'.place e < size h' (length es) (h'.group e)
  fits' e l = rw (flip_size es h g (length es) (h'.group e)) (go (ℕ_discrete (h.group e) g))
    where
      go : Dec (h.group e ≡ g) → h'.place e < size h (length es) (h.group e)
      go (yes q) = omega (arith, flip_place e l q, ap (size h (length es)) q)
      go (no q) = rw (keep_place es h g e q) (w.fits e l)

  apart' : (e c : ℕ) → e < length es → c < length es → h'.group e ≡ h'.group c → h'.place e ≡ h'.place c → e ≡ c
  apart' e c l m q t = go (ℕ_discrete (h.group e) g) (ℕ_discrete (h.group c) g)
    where
      q' : h.group e ≡ h.group c
      q' = q

      go : Dec (h.group e ≡ g) → Dec (h.group c ≡ g) → e ≡ c
      go (yes a) (yes b) = w.apart e c l m q' (omega (arith, t, flip_place e l a, flip_place c m b))
      go (yes a) (no b) = absurd (b (sym q' ∙ a))
      go (no a) (yes b) = absurd (a (q' ∙ b))
      go (no a) (no b) = w.apart e c l m q' (sym (keep_place es h g e a) ∙ t ∙ keep_place es h g c b)

  ends' : (e : ℕ) → e < length es → At es (h'.low e) e
  ends' e l = go (ℕ_discrete (h.group e) g)
    where
      go : Dec (h.group e ≡ g) → At es (h'.low e) e
      go (yes q) = rw (flip_low es h g e q) (across es e (h.low e) pr (w.ends e l)).at
      go (no q) = rw (keep_low es h g e q) (w.ends e l)

  leaf_flip : (x e : ℕ) → e < length es → h.group e ≡ g → LeafAt es h x e → LeafAt es h' x e
  leaf_flip x e l q (at_low a b) =
      at_high (flip_high e l q ∙ a) (rw (flip_size es h g (length es) (h'.group e)) (omega (arith, flip_place e l q, b, ap (size h (length es)) q)))
  leaf_flip x e l q (at_high a b) =
      let b' : suc (h.place e) ≡ size h (length es) g = rw q at b in
      at_low (flip_low es h g e q ∙ a) (omega (arith, flip_place e l q, b'))

  leaf_keep : (x e : ℕ) → h.group e ≢ g → LeafAt es h x e → LeafAt es h' x e
  leaf_keep x e q (at_low a b) = at_low (keep_low es h g e q ∙ a) (keep_place es h g e q ∙ b)
  leaf_keep x e q (at_high a b) =
      at_high (rw (keep_low es h g e q) a) (rw (flip_size es h g (length es) (h'.group e), keep_place es h g e q) b)

  leaf' : (x e : ℕ) → degree es x ≡ 1 → At es x e → LeafAt es h' x e
  leaf' x e c a = go (ℕ_discrete (h.group e) g)
    where
      go : Dec (h.group e ≡ g) → LeafAt es h' x e
      go (yes q) = leaf_flip x e a.inside q (w.leaf x e c a)
      go (no q) = leaf_keep x e q (w.leaf x e c a)

  -- edges that follow each other do so after the turn too, in this group and in others
  unfoldable pub successive_flip : (v : ℕ) → Successive es h v g → Successive es (flipped es h g) v g
  successive_flip v u = record {
    lo = u.hi;
    hi = u.lo;
    lo_at = u.hi_at;
    hi_at = u.lo_at;
    lo_group = u.hi_group;
    hi_group = u.lo_group;
    step = omega (arith, flip_place u.hi u.hi_at.inside u.hi_group, flip_place u.lo u.lo_at.inside u.lo_group, u.step);
    lo_end = flip_high u.hi u.hi_at.inside u.hi_group ∙ u.hi_end;
    hi_end = flip_low es h g u.lo u.lo_group ∙ u.lo_end;
  }

  unfoldable pub successive_keep : (v c : ℕ) → c ≢ g → Successive es h v c → Successive es (flipped es h g) v c
  successive_keep v c q u =
      let a : h.group u.lo ≢ g = λ z. q (sym u.lo_group ∙ z) in
      let b : h.group u.hi ≢ g = λ z. q (sym u.hi_group ∙ z) in
      record {
        lo = u.lo;
        hi = u.hi;
        lo_at = u.lo_at;
        hi_at = u.hi_at;
        lo_group = u.lo_group;
        hi_group = u.hi_group;
        step = omega (arith, keep_place es h g u.lo a, keep_place es h g u.hi b, u.step);
        lo_end = rw (keep_low es h g u.lo a) u.lo_end;
        hi_end = keep_low es h g u.hi b ∙ u.hi_end;
      }

  between' : (v e : ℕ) → degree es v ≡ 2 → At es v e → h'.is_open (h'.group e) ≡ true → Successive es h' v (h'.group e)
  between' v e c a t = go (ℕ_discrete (h.group e) g)
    where
      u : Successive es h v (h.group e)
      u = w.between v e c a t

      go : Dec (h.group e ≡ g) → Successive es h' v (h.group e)
      go (yes q) = rw q (successive_flip v (rw q at u))
      go (no q) = successive_keep v (h.group e) q u

  round' : h.is_open g ≡ true → (e : ℕ) → e < length es → h.is_open (h.group e) ≡ false → degree es (far es e (h'.low e)) ≡ 2 → NextRound es h' e
  unfolding size
  round' o e l f c =
      let ne : h.group e ≢ g = λ q. not_both _ o (rw q at f) in
      let low : h'.low e ≡ h.low e = keep_low es h g e ne in
      let r : NextRound es h e = w.round e l f (rw low at c) in
      let nh : h.group r.hi ≢ g = λ q. ne (sym r.hi_group ∙ q) in
      record {
        hi = r.hi;
        hi_at = rw low r.hi_at;
        hi_group = r.hi_group;
        hi_end = rw low (keep_low es h g r.hi nh ∙ r.hi_end);
        place_is = rw (keep_place es h g e ne, keep_place es h g r.hi nh) r.place_is;
      }

  -- only an open course is turned
  pub flip_courses : h.is_open g ≡ true → Courses es relabellings (flipped es h g)
  unfolding size
  flip_courses o = record {
    below = w.below;
    fits = fits';
    apart = apart';
    ends = ends';
    leaf_open = w.leaf_open;
    leaf = leaf';
    between = between';
    round = round' o;
    ring_shut = w.ring_shut;
    cost = w.cost;
    cost_open = w.cost_open;
    cost_ring = w.cost_ring;
    sums = w.sums;
  }
