-- Walks to a leaf, and what they were before the last edge: walks to a leaf too, and no longer.
use mathlib.Core.Path.{◌≡◌, refl, sym, ◌∙◌, subst}
use mathlib.Core.Logic.{◌≢◌, ◌⊎◌, inl, inr}
use Prim.Native.Nat.{ℕ, ◌+◌, ◌≤◌}
use native.Mathlib.Omega.{arith}
use mathlib.Core.Bool.{true}
use mathlib.Core.List.{List, [], ◌∷◌, ◌++◌}
use lib.ListN.{length}
use borrow.Author.Tests.{eqb-true}
use Rattle.model.specs.Graph.{Edge, Pass, degree, end_onwards, ends_at, far, is_leaf, onwards, turn}
use Rattle.model.proofs.Walks.Degree.{Proper, degree_snoc, ends_at_le, is_two, two_is, zero_or_one}
use Rattle.model.proofs.Walks.Turn.{At}
use Rattle.model.proofs.Walks.Joins.{across}
use Rattle.model.proofs.Walks.Trail.{Trail, done, pass, Next, next_edge, Walked, trail_end_of, walked}
use Rattle.model.proofs.Walks.Snoc.{far_old, turn_old}
use Rattle.model.proofs.Walks.NewEdge.{at_degree, old_edge}

-- ---- walks to a leaf

-- along edge d to vertex v and on to a leaf
pub record ToLeaf (es : List Edge) (d v : ℕ) : Type 0 where
  pub passes : List Pass
  pub onto : ℕ
  pub to : ℕ
  pub trail : Trail es d v passes onto to
  pub leaf : degree es to ≡ 1

-- the walk itself, where it ends at a leaf
pub leads_to_leaf : (es : List Edge) (d v : ℕ) → is_leaf es (end_onwards es d v) ≡ true → (l : ToLeaf es d v) × (l.passes ≡ onwards es d v)
unfolding is_leaf end_onwards onwards
leads_to_leaf es d v h =
    let w : Walked (length es) es d v = walked (length es) es d v in
    let leaf : degree es w.to ≡ 1 = eqb-true _ _ (subst (λ (z : ℕ). is_leaf es z ≡ true) (trail_end_of w.trail) h) in
    (record { passes = onwards es d v; onto = w.onto; to = w.to; trail = w.trail; leaf = leaf }, refl)

-- from v along its edges c and d to two leaves
pub record TwoLeaves (es : List Edge) (c d v : ℕ) : Type 0 where
  pub one : ToLeaf es c (far es c v)
  pub other : ToLeaf es d (far es d v)

-- the number of edges from the one leaf to the other
abbrev pub edges_between : {es : List Edge} {c d v : ℕ} → TwoLeaves es c d v → ℕ
edges_between b = length b.one.passes + length b.other.passes + 2

-- ---- before the last edge

module _ (es : List Edge) (p : Edge) (pr : Proper es) (ne : p.first ≢ p.second) where
  abbrev new : List Edge
  new = es ++ (p ∷ [])

  -- it ended where it first meets an end of the edge, or at its leaf
  shorter : {d v q z : ℕ} {ss : List Pass} → At es v d → Trail new d v ss q z → degree new z ≡ 1 → (b : ToLeaf es d v) × (length b.passes ≤ length ss)
  shorter {d} {v} a done c =
      (record { passes = []; onto = d; to = v; trail = done; leaf = omega (arith, degree_snoc es p v, at_degree es v d a) }, omega arith)
  shorter {d} {v} {q} {z} a (pass {ss = ss} t r tn u) c = go (zero_or_one (ends_at v p) (ends_at_le v p ne)) (λ b. shorter b u c)
    where
      go : (ends_at v p ≡ 0) ⊎ (ends_at v p ≡ 1) → (At es (far new t v) t → (b : ToLeaf es t (far new t v)) × (length b.passes ≤ length ss))
          → (b : ToLeaf es d v) × (length b.passes ≤ length (record { before = d; at = v; after = t } ∷ ss))
      go (inr o) ih =
          (record { passes = []; onto = d; to = v; trail = done; leaf = omega (arith, degree_snoc es p v, is_two new v r) }, omega arith)
      go (inl o) ih =
          let two : degree es v ≡ 2 = omega (arith, degree_snoc es p v, is_two new v r) in
          let tn' : turn es d v ≡ t = sym (turn_old es p v d pr o) ∙ tn in
          let nx : Next es d v t = next_edge es d v t pr a (two_is es v two) tn' in
          let i : far new t v ≡ far es t v = far_old es p t v nx.at.inside in
          let k : (b : ToLeaf es t (far es t v)) × (length b.passes ≤ length ss) =
          subst (λ (y : ℕ). (b : ToLeaf es t y) × (length b.passes ≤ length ss)) i (ih (rw i nx.across.at)) in (
            record {
              passes = record { before = d; at = v; after = t } ∷ k.0.passes;
              onto = k.0.onto;
              to = k.0.to;
              trail = pass t (two_is es v two) tn' k.0.trail;
              leaf = k.0.leaf;
            },
            omega (arith, k.1),
          )

  -- from a vertex that the edge does not meet
  pub before : {d v : ℕ} → ends_at v p ≡ 0 → At new v d → (l : ToLeaf new d (far new d v)) → (b : ToLeaf es d (far es d v)) × (length b.passes ≤ length l.passes)
  before {d} {v} z a l =
      let b : At es v d = old_edge es p v d z a in
      shorter (across es d v pr b).at (subst (λ (w : ℕ). Trail new d w l.passes l.onto l.to) (far_old es p d v b.inside) l.trail) l.leaf
