-- Trails along a course: each vertex that they pass stands one place further on.
use mathlib.Core.Path.{◌≡◌, refl, sym, ap, ◌∙◌, subst}
use mathlib.Core.Logic.{◌⊎◌, inl, inr}
use Prim.Native.Nat.{ℕ, zero, suc, ◌+◌, ◌<◌}
use native.Mathlib.Omega.{arith}
use mathlib.Core.Bool.{true}
use mathlib.Core.List.{List, [], ◌∷◌}
use lib.ListN.{length}
use borrow.Author.Tests.{eqb-true}
use Rattle.model.specs.Graph.{Edge, Pass, degree, far, is_regular, turn}
use Rattle.model.specs.Labels.{inwards}
use Rattle.model.proofs.Walks.Degree.{Proper}
use Rattle.model.proofs.Walks.Turn.{At, two_edges, turn_between}
use Rattle.model.proofs.Walks.Trail.{Trail, done, pass}
use Rattle.theory.proofs.Groups.Shape.{Shape, size, LeafAt, at_low, at_high, Successive, successive_differ, successive_or, Courses, place_fits}
use Rattle.theory.proofs.Groups.Flip.{flipped, flip_size, flip_low, flip_courses}
use Rattle.model.proofs.Walks.Places.{Ith, here, later, no_ith, InPath, Nth, nth}
use Rattle.theory.proofs.Labels.Inwards.{inward}
use Rattle.model.proofs.Walks.Joins.{across, far_ne}

-- a pass between two edges of group g, the first of them at place i
pub record Spot (es : List Edge) (h : Shape) (g i : ℕ) (s : Pass) : Type 0 where
  pub before_at : At es s.at s.before
  pub after_at : At es s.at s.after
  pub before_group : h.group s.before ≡ g
  pub after_group : h.group s.after ≡ g
  pub before_place : h.place s.before ≡ i
  pub after_place : h.place s.after ≡ suc i
  pub before_end : far es s.before (h.low s.before) ≡ s.at
  pub after_end : h.low s.after ≡ s.at
  pub regular : degree es s.at ≡ 2

-- a vertex passed between two edges of a course lies between two that follow each other
unfoldable pub spot_successive : {es : List Edge} {h : Shape} {g i v : ℕ} {s : Pass} → s.at ≡ v → Spot es h g i s → Successive es h v g
spot_successive {es} {s = s} q sp = record {
  lo = s.before;
  hi = s.after;
  lo_at = subst (λ (z : ℕ). At es z s.before) q sp.before_at;
  hi_at = subst (λ (z : ℕ). At es z s.after) q sp.after_at;
  lo_group = sp.before_group;
  hi_group = sp.after_group;
  step = omega (arith, sp.before_place, sp.after_place);
  lo_end = sp.before_end ∙ q;
  hi_end = sp.after_end ∙ q;
}

-- the passes of a path stand one after the other, from place i on
abbrev pub Rises : List Edge → Shape → ℕ → ℕ → List Pass → Type 0
Rises es h g i [] = Unit {0}
Rises es h g i (s ∷ ss) = Spot es h g i s × Rises es h g (suc i) ss

-- the i-th of a path that rises along a course
pub rises_ith : {es : List Edge} {h : Shape} {g : ℕ} (at : ℕ) (path : List Pass) → Rises es h g at path → (i : ℕ) (s : Pass) → Ith s i path → Spot es h g (at + i) s
rises_ith at [] r i s j = absurd (no_ith j)
rises_ith {es} {h} {g} at (t ∷ ss) r zero s here = subst (λ (k : ℕ). Spot es h g k t) (let e : at ≡ at + 0 = omega arith in e) r.0
rises_ith {es} {h} {g} at (t ∷ ss) r (suc i) s (later j) =
    subst (λ (k : ℕ). Spot es h g k s) (let e : suc at + i ≡ at + suc i = omega arith in e) (rises_ith (suc at) ss r.1 i s j)

-- A trail that sets out from edge e towards its high end and ends on edge q, all on e's course
pub record Climb (es : List Edge) (h : Shape) (e : ℕ) (ss : List Pass) (q : ℕ) : Type 0 where
  pub inside : q < length es
  pub same_group : h.group q ≡ h.group e
  pub rise : h.place q ≡ h.place e + length ss
  pub path : Rises es h (h.group e) (h.place e) ss

module _ (es : List Edge) (pr : Proper es) {relabellings : ℕ} {h : Shape} (w : Courses es relabellings h) where
  -- one regular vertex upwards
  spot : (e v t : ℕ) → e < length es → far es e (h.low e) ≡ v → h.is_open (h.group e) ≡ true → is_regular es v ≡ true → turn es e v ≡ t
      → Spot es h (h.group e) (h.place e) (record { before = e; at = v; after = t })
  unfolding is_regular
  spot e v t l i o c tn = go (successive_or es h v (h.group e) e pr two u a)
    where
      a : At es v e
      a = rw i at (across es e (h.low e) pr (w.ends e l)).at

      two : degree es v ≡ 2
      two = eqb-true _ _ c

      u : Successive es h v (h.group e)
      u = w.between v e two a o

      go : (e ≡ u.lo) ⊎ (e ≡ u.hi) → Spot es h (h.group e) (h.place e) (record { before = e; at = v; after = t })
      go (inr q) =
          let k : h.low e ≡ v = rw q u.hi_end in
          absurd (far_ne es e (h.low e) pr (w.ends e l) (i ∙ sym k))
      go (inl q) =
          let y : t ≡ u.hi = sym tn ∙ turn_between es v e u.hi (two_edges es v pr two) a u.hi_at (λ z. successive_differ u (sym q ∙ z)) in
          record {
            before_at = a;
            after_at = rw y u.hi_at;
            before_group = refl;
            after_group = rw y u.hi_group;
            before_place = refl;
            after_place = rw y (u.step ∙ ap (λ (k : ℕ). suc (h.place k)) (sym q));
            before_end = i;
            after_end = rw y u.hi_end;
            regular = two;
          }

  -- a trail on an open course stays on it, each vertex one place further on
  pub climb : {e v q z : ℕ} {ss : List Pass} → e < length es → far es e (h.low e) ≡ v → h.is_open (h.group e) ≡ true → Trail es e v ss q z → Climb es h e ss q
  climb l i o done = record { inside = l; same_group = refl; rise = omega arith; path = tt }
  climb {e} {v} {q} l i o (pass {ss = ss} t c tn u) =
      let sp = spot e v t l i o c tn in
      let r : Climb es h t ss q = climb sp.after_at.inside (ap (λ (k : ℕ). far es t k) sp.after_end) (rw sp.after_group o) u in
      record {
        inside = r.inside;
        same_group = r.same_group ∙ sp.after_group;
        rise = omega (arith, r.rise, sp.after_place);
        path = (sp, subst (λ (k : ℕ). Rises es h (h.group e) k ss) sp.after_place (subst (λ (k : ℕ). Rises es h k (h.place t) ss) sp.after_group r.path));
      }

-- from a leaf at the low end of its course inwards
module _ (es : List Edge) (pr : Proper es) {relabellings : ℕ} {h : Shape} (w : Courses es relabellings h) (x e : ℕ) (c : degree es x ≡ 1) (a : At es x e) (lo : h.low e ≡ x) where
  -- the way inwards from such a leaf climbs the course
  pub inwards_climb : Climb es h e (inwards es x) (inward es pr x e c a).onto
  inwards_climb = climb es pr w a.inside (ap (λ (v : ℕ). far es e v) lo) (w.leaf_open x e c a) (inward es pr x e c a).trail

  short_low : length (inwards es x) < size h (length es) (h.group e)
  short_low = let k = inwards_climb in omega (arith, k.rise, place_fits w _ (h.group e) k.inside k.same_group)

  -- the way inwards passes every regular vertex up to its length
  pub low_path : h.place e ≡ 0 → (t v i : ℕ) → t < length es → h.group t ≡ h.group e → h.place t ≡ suc i → h.low t ≡ v → i < length (inwards es x) → InPath (inwards es x) v
  low_path bot t v i l g pl lt li =
      let f : Nth (inwards es x) i = nth (inwards es x) i li in
      let sp : Spot es h (h.group e) (h.place e + i) f.pass_is = rises_ith (h.place e) (inwards es x) inwards_climb.path i f.pass_is f.ith in
      let z : f.pass_is.after ≡ t = w.apart f.pass_is.after t sp.after_at.inside l (sp.after_group ∙ sym g) (omega (arith, sp.after_place, bot, pl)) in
      record { index = i; pass_is = f.pass_is; ith = f.ith; at_is = sym sp.after_end ∙ ap h.low z ∙ lt }

-- a leaf's chain has fewer regular vertices than its group has edges
pub inwards_short : (es : List Edge) → Proper es → {relabellings : ℕ} {h : Shape} → Courses es relabellings h → (x e : ℕ) → degree es x ≡ 1 → At es x e
    → length (inwards es x) < size h (length es) (h.group e)
inwards_short es pr {h = h} w x e c a = go (w.leaf x e c a)
  where
    g : ℕ
    g = h.group e

    go : LeafAt es h x e → length (inwards es x) < size h (length es) g
    go (at_low l b) = short_low es pr w x e c a l
    go (at_high l b) =
        rw (flip_size es h g (length es) ((flipped es h g).group e)) at (short_low es pr (flip_courses es pr w g (w.leaf_open x e c a)) x e c a (flip_low es h g e refl ∙ l))
