-- Trails through regular vertices, and the one from a leaf inwards.
use mathlib.Core.Path.{◌≡◌, refl, sym}
use Prim.Native.Nat.{ℕ, zero, suc}
use mathlib.Core.Bool.{false}
use mathlib.Core.List.{List, ◌∷◌}
use borrow.Author.Tests.{eqb-true}
use Rattle.model.specs.Graph.{Edge, Pass, degree, far, is_regular, onwards}
use Rattle.model.specs.Labels.{inwards}
use Rattle.model.proofs.Walks.Degree.{Proper, leaf_singular}
use Rattle.model.proofs.Walks.Turn.{At, only_edge_is}
use Rattle.model.proofs.Walks.Joins.{across}
use Rattle.model.proofs.Walks.Trail.{Trail, done, pass, Next, next_edge}
use Rattle.model.proofs.Walks.Ended.{Ended}
use Rattle.model.proofs.Walks.Returns.{singular_ends}
use Rattle.model.proofs.Walks.Places.{Ith, here, later, no_ith, InPath}
use Rattle.model.proofs.Walks.Whole.{Onwards, onwards_ends}

-- what a trail passes has degree 2
pub trail_regular : {es : List Edge} {d v q w : ℕ} {ss : List Pass} → Trail es d v ss q w → (i : ℕ) (s : Pass) → Ith s i ss → degree es s.at ≡ 2
unfolding is_regular
trail_regular done i s j = absurd (no_ith j)
trail_regular (pass t c tn u) zero s here = eqb-true _ _ c
trail_regular (pass t c tn u) (suc i) s (later j) = trail_regular u i s j

-- the last vertex that a trail passes
pub data Last (es : List Edge) (d v : ℕ) (ss : List Pass) (q w : ℕ) : Type 0 where
  nothing : q ≡ d → w ≡ v → Last es d v ss q w
  passed : InPath ss (far es q w) → Last es d v ss q w

-- a trail passes nothing, or its last vertex is at the far end of its last edge
pub trail_last : {es : List Edge} {d v q w : ℕ} {ss : List Pass} → Proper es → At es v d → Trail es d v ss q w → Last es d v ss q w
trail_last pr a done = nothing refl refl
trail_last {es} {d} {v} {q} {w} pr a (pass {ss = ss} t c e u) = passed (go (trail_last pr nx.across.at u))
  where
    nx : Next es d v t
    nx = next_edge es d v t pr a c e

    now : Pass
    now = record { before = d; at = v; after = t }

    go : Last es t (far es t v) ss q w → InPath (now ∷ ss) (far es q w)
    go (nothing i j) = record { index = 0; pass_is = now; ith = here; at_is = sym (rw (i, j) nx.across.again) }
    go (passed f) = record { index = suc f.index; pass_is = f.pass_is; ith = later f.ith; at_is = f.at_is }

-- a trail from x along its edge e to a singular vertex
pub record Inward (es : List Edge) (x e : ℕ) (ss : List Pass) : Type 0 where
  pub onto : ℕ
  pub to : ℕ
  pub trail : Trail es e (far es e x) ss onto to
  pub singular : is_regular es to ≡ false

module _ (es : List Edge) (pr : Proper es) where
  -- where the walk ends, `onwards` gives such a trail
  pub inward_on : (x e : ℕ) → At es x e → Ended es e (far es e x) → Inward es x e (onwards es e (far es e x))
  inward_on x e a r =
      let o : Onwards es e (far es e x) = onwards_ends es pr e (far es e x) (across es e x pr a).at r in
      record { onto = o.onto; to = o.to; trail = o.trail; singular = o.singular }

  -- from a leaf `inwards` gives such a trail
  pub inward : (x e : ℕ) → degree es x ≡ 1 → At es x e → Inward es x e (inwards es x)
  unfolding inwards
  inward x e c a = rw (only_edge_is es x e pr c a) (inward_on x e a (singular_ends es pr e x a (leaf_singular es x c)))
