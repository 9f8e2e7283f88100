-- What a new edge meets at its two ends: at x the group that it follows, at y the group that follows it, or none.
use mathlib.Core.Path.{◌≡◌, refl, sym, ◌∙◌}
use mathlib.Core.Logic.{◌≢◌, ◌⊎◌, inl, inr}
use Prim.Native.Nat.{ℕ, suc, ◌≤◌, ◌<◌}
use native.Mathlib.Omega.{arith}
use mathlib.Core.Bool.{Bool, true, false}
use mathlib.Core.List.{List}
use lib.ListN.{length}
use Rattle.model.specs.Graph.{Edge, degree, ends_at, far}
use Rattle.model.proofs.Basics.Booleans.{not_both}
use Rattle.model.proofs.Walks.Degree.{Proper}
use Rattle.model.proofs.Walks.Turn.{At, OneEdge, one_edge_lem}
use Rattle.theory.proofs.Groups.Shape.{Shape, size, Courses, group_fresh, size_fresh}

-- end x of the edge p at the high end of group gx; `b`: the course is open afterwards
pub record HighEnd (es : List Edge) (p : Edge) (h : Shape) (gx x : ℕ) (b : Bool) : Type 0 where
  pub gx_in : gx ≤ length es
  pub x_end : ends_at x p ≡ 1
  pub x_shut : b ≡ false → degree es x ≡ 1
  pub open_x : (e : ℕ) → e < length es → h.group e ≡ gx → h.is_open gx ≡ true
  pub x_zero : degree es x ≡ 0 → (b ≡ true) × (size h (length es) gx ≡ 0)
  pub x_one : (e : ℕ) → degree es x ≡ 1 → At es x e → (h.group e ≡ gx) × (far es e (h.low e) ≡ x) × (suc (h.place e) ≡ size h (length es) gx)
  pub x_seam : (e : ℕ) → e < length es → h.group e ≡ gx → suc (h.place e) ≡ size h (length es) gx → ends_at (far es e (h.low e)) p ≡ 1

-- the edge c at the low end of group gx and its leaf y
pub record Closes (es : List Edge) (h : Shape) (gx y : ℕ) : Type 0 where
  pub c : ℕ
  pub leaf : degree es y ≡ 1
  pub at : At es y c
  pub group_is : h.group c ≡ gx
  pub low_is : h.low c ≡ y
  pub place_is : h.place c ≡ 0

-- end y at the low end of group gy or, where the edge closes gx, at the low end of that
pub record LowEnd (es : List Edge) (p : Edge) (h : Shape) (gx gy y : ℕ) (b : Bool) : Type 0 where
  pub y_end : ends_at y p ≡ 1
  pub open_y : (e : ℕ) → e < length es → h.group e ≡ gy → (h.is_open gy ≡ true) × (b ≡ true)
  pub y_zero : degree es y ≡ 0 → (b ≡ true) × (size h (length es) gy ≡ 0)
  pub y_one : (e : ℕ) → b ≡ true → degree es y ≡ 1 → At es y e → (h.group e ≡ gy) × (h.low e ≡ y) × (h.place e ≡ 0)
  pub y_in : (e : ℕ) → degree es y ≡ 1 → At es y e → (h.group e ≡ gx) ⊎ (h.group e ≡ gy)
  pub y_seam : (e : ℕ) → e < length es → h.group e ≡ gy → h.place e ≡ 0 → ends_at (h.low e) p ≡ 1
  pub closes : b ≡ false → Closes es h gx y
  pub shut : (b ≡ true) ⊎ ((e : ℕ) → e < length es → h.group e ≡ gx → h.place e ≡ 0 → ends_at (h.low e) p ≡ 1)

-- a leaf has one edge
leaf_edge : (es : List Edge) (x e : ℕ) → Proper es → degree es x ≡ 1 → At es x e → (c : ℕ) → At es x c → c ≡ e
leaf_edge es x e pr f a c b = let o : OneEdge es x = one_edge_lem es x pr f in o.only c b ∙ sym (o.only e a)

module _ (es : List Edge) (p : Edge) (pr : Proper es) {relabellings : ℕ} {h : Shape} (w : Courses es relabellings h) where
  -- at an end that is no leaf the edge follows no group
  pub high_none : (x : ℕ) → ends_at x p ≡ 1 → degree es x ≢ 1 → HighEnd es p h (length es) x true
  high_none x ex nx = record {
    gx_in = omega arith;
    x_end = ex;
    x_shut = λ f. absurd (not_both _ refl f);
    open_x = λ e i q. absurd (group_fresh w (length es) (omega arith) e i q);
    x_zero = λ q. (refl, size_fresh w (length es) (omega arith));
    x_one = λ e q a. absurd (nx q);
    x_seam = λ e i q t. absurd (group_fresh w (length es) (omega arith) e i q);
  }

  -- at a leaf at the high end of its group the edge follows that group
  pub high_leaf : (x e : ℕ) {b : Bool} → ends_at x p ≡ 1 → degree es x ≡ 1 → At es x e → far es e (h.low e) ≡ x → suc (h.place e) ≡ size h (length es) (h.group e)
      → HighEnd es p h (h.group e) x b
  high_leaf x e ex fx a hi top = record {
    gx_in = omega (arith, w.below e a.inside);
    x_end = ex;
    x_shut = λ f. fx;
    open_x = λ c i q. w.leaf_open x e fx a;
    x_zero = λ q. absurd (omega arith);
    x_one = λ c q b. rw (leaf_edge es x e pr fx a c b) (refl, hi, top);
    x_seam = λ c i q t. rw (w.apart c e i a.inside q (omega (arith, t, top)), hi) ex;
  }

  -- at an end that is no leaf no group follows the edge
  pub low_none : (gx gy y : ℕ) → length es ≤ gy → ends_at y p ≡ 1 → degree es y ≢ 1 → LowEnd es p h gx gy y true
  low_none gx gy y l ey ny = record {
    y_end = ey;
    open_y = λ e i q. absurd (group_fresh w gy l e i q);
    y_zero = λ q. (refl, size_fresh w gy l);
    y_one = λ e t q a. absurd (ny q);
    y_in = λ e q a. absurd (ny q);
    y_seam = λ e i q t. absurd (group_fresh w gy l e i q);
    closes = λ f. absurd (not_both _ refl f);
    shut = inl refl;
  }

  -- y is a leaf and stands at the low end of its group
  module _ (gx y c : ℕ) (ey : ends_at y p ≡ 1) (fy : degree es y ≡ 1) (a : At es y c) (lo : h.low c ≡ y) (bot : h.place c ≡ 0) where
    low_seam : (e : ℕ) → e < length es → h.group e ≡ h.group c → h.place e ≡ 0 → ends_at (h.low e) p ≡ 1
    low_seam e i q t = rw (w.apart e c i a.inside q (omega (arith, t, bot)), lo) ey

    -- at a leaf at the low end of its group that group follows the edge
    pub low_leaf : LowEnd es p h gx (h.group c) y true
    low_leaf = record {
      y_end = ey;
      open_y = λ e i q. (w.leaf_open y c fy a, refl);
      y_zero = λ q. absurd (omega arith);
      y_one = λ e t q r. rw (leaf_edge es y c pr fy a e r) (refl, lo, bot);
      y_in = λ e q r. rw (leaf_edge es y c pr fy a e r) (inr refl);
      y_seam = low_seam;
      closes = λ f. absurd (not_both _ refl f);
      shut = inl refl;
    }

    -- at a leaf at the low end of the group that the edge follows, it closes that
    pub low_closing : (gy : ℕ) → length es ≤ gy → h.group c ≡ gx → LowEnd es p h gx gy y false
    low_closing gy l eq = record {
      y_end = ey;
      open_y = λ e i q. absurd (group_fresh w gy l e i q);
      y_zero = λ q. absurd (omega arith);
      y_one = λ e t q r. absurd (not_both _ t refl);
      y_in = λ e q r. rw (leaf_edge es y c pr fy a e r) (inl eq);
      y_seam = λ e i q t. absurd (group_fresh w gy l e i q);
      closes = λ f. record { c = c; leaf = fy; at = a; group_is = eq; low_is = lo; place_is = bot };
      shut = inr (λ e i q t. low_seam e i (q ∙ sym eq) t);
    }
