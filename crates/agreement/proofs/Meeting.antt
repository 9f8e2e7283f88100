-- Two rounds that share a vertex are one ring; the test `passes`.
use mathlib.Core.Path.{◌≡◌, refl, sym}
use mathlib.Core.Logic.{◌≢◌, ◌⊎◌, inl, inr}
use Prim.Native.Nat.{ℕ, suc}
use native.Mathlib.Decide.{ℕ_discrete}
use mathlib.Core.Bool.{true, false}
use mathlib.Core.List.{List, [], ◌∷◌}
use borrow.Author.Tests.{eq-eqb, ne_eqb}
use Rattle.model.specs.Graph.{Edge, Pass, degree, far, lower_numbered, once_round}
use Rattle.model.specs.Labels.{passes, vertex_on_ring}
use Rattle.model.proofs.Basics.Booleans.{not_both, true_or_false}
use Rattle.model.proofs.Walks.Degree.{Proper}
use Rattle.model.proofs.Walks.Turn.{At}
use Rattle.model.proofs.Walks.Joins.{across}
use Rattle.model.proofs.Walks.Places.{here, later, no_ith, InPath, Off, off_cons}
use Rattle.model.proofs.Walks.Tours.{Tour, OnTour, is_x, is_of, ring_tour, edge_on, tour_follow, tour_ring}
use Rattle.model.proofs.Walks.Trail.{Cut, cut, trail_at}
use Rattle.model.proofs.Walks.Once.{Pair, pair}
use Rattle.agreement.proofs.Ringing.{lower_at}

-- ---- the test

-- the test holds of those on the path, and of no other
pub passed : (v : ℕ) (ss : List Pass) → passes v ss ≡ true → InPath ss v
unfolding passes
passed v [] e = absurd (not_both _ e refl)
passed v (s ∷ ss) e = go (ℕ_discrete s.at v) (λ q. passed v ss q)
  where
    go : Dec (s.at ≡ v) → (passes v ss ≡ true → InPath ss v) → InPath (s ∷ ss) v
    go (yes q) ih = record { index = 0; pass_is = s; ith = here; at_is = q }
    go (no q) ih = let f = ih (rw (ne_eqb s.at v q, passes) at e) in record { index = suc f.index; pass_is = f.pass_is; ith = later f.ith; at_is = f.at_is }

pub not_passed : (v : ℕ) (ss : List Pass) → passes v ss ≡ false → Off ss v
unfolding passes
not_passed v [] e = λ i s j. absurd (no_ith j)
not_passed v (s ∷ ss) e = go (ℕ_discrete s.at v) (λ q. not_passed v ss q)
  where
    go : Dec (s.at ≡ v) → (passes v ss ≡ false → Off ss v) → Off (s ∷ ss) v
    go (yes q) ih = absurd (not_both _ (rw (eq-eqb s.at v q, passes)) e)
    go (no q) ih = off_cons s ss v (ih (rw (ne_eqb s.at v q, passes) at e)) (λ z. q (sym z))

-- the test fails off the path, and holds on it
pub passes_off : (v : ℕ) (ss : List Pass) → Off ss v → passes v ss ≡ false
passes_off v ss o = go (true_or_false (passes v ss))
  where
    go : (passes v ss ≡ true) ⊎ (passes v ss ≡ false) → passes v ss ≡ false
    go (inl t) = let f = passed v ss t in absurd (o f.index f.pass_is f.ith f.at_is)
    go (inr t) = t

pub passes_in_lem : (v : ℕ) (ss : List Pass) → InPath ss v → passes v ss ≡ true
passes_in_lem v ss f = go (true_or_false (passes v ss))
  where
    go : (passes v ss ≡ true) ⊎ (passes v ss ≡ false) → passes v ss ≡ true
    go (inl t) = t
    go (inr t) = absurd (not_passed v ss t f.index f.pass_is f.ith f.at_is)

-- ---- rounds

-- if a vertex lies on both, then y lies on that of x
tours_share : {es : List Edge} (pr : Proper es) {x d q y d' q' : ℕ} {path path' : List Pass} (t : Tour es x d q path) (t' : Tour es y d' q' path') (z : ℕ) → OnTour pr t z → InPath path' z → OnTour pr t y
tours_share {es} pr {x} {d} {q} {y} {d'} {q'} {path} {path'} t t' z on f =
    let s = f.pass_is in
    let r : Pair es d' path' s = pair es pr (across es d' y pr t'.d_at).at t'.trail f.index s f.ith in
    let k : Cut es d' (far es d' y) path' q' y s.after = cut s.after t'.trail r.after_in in
    tour_follow pr t (edge_on pr t z s.after on (rw f.at_is at r.after_at)) (trail_at pr (across es d' y pr t'.d_at).at k.before) k.behind

module _ (es : List Edge) (pr : Proper es) (a b : ℕ) (ca : degree es a ≡ 2) (cb : degree es b ≡ 2) (ab : a ≢ b) (ra : vertex_on_ring es a ≡ true) where
  tour_a : (q : ℕ) × Tour es a (lower_numbered es a) q (once_round es (lower_numbered es a) a)
  unfolding vertex_on_ring
  tour_a = ring_tour es pr (lower_numbered es a) a ra (lower_at es pr a ca)

  -- a vertex of a's round lies on a ring
  pub ring_too : InPath (once_round es (lower_numbered es a) a) b → vertex_on_ring es b ≡ true
  unfolding vertex_on_ring
  ring_too f =
      let at : At es b (lower_numbered es b) = lower_at es pr b cb in
      tour_ring pr tour_a.1 (lower_numbered es b) (edge_on pr tour_a.1 b (lower_numbered es b) (is_of f) at) at.inside

  is_inner : OnTour pr tour_a.1 b → InPath (once_round es (lower_numbered es a) a) b
  is_inner (is_x e) = absurd (ab (sym e))
  is_inner (is_of f) = f

  module _ (rb : vertex_on_ring es b ≡ true) where
    tour_b : (q : ℕ) × Tour es b (lower_numbered es b) q (once_round es (lower_numbered es b) b)
    unfolding vertex_on_ring
    tour_b = ring_tour es pr (lower_numbered es b) b rb (lower_at es pr b cb)

    -- if a lies on the round of b, then b lies on that of a
    pub meets_back : InPath (once_round es (lower_numbered es b) b) a → InPath (once_round es (lower_numbered es a) a) b
    meets_back f = is_inner (tours_share pr tour_a.1 tour_b.1 a (is_x refl) f)

    -- if a vertex lies on both, then b lies on that of a
    pub shares : (z : ℕ) → InPath (once_round es (lower_numbered es a) a) z → InPath (once_round es (lower_numbered es b) b) z → InPath (once_round es (lower_numbered es a) a) b
    shares z f g = is_inner (tours_share pr tour_a.1 tour_b.1 z (is_of f) g)
