-- What find and distance answer in a register with the invariants.
use mathlib.Core.Path.{◌≡◌, refl, sym, ap, ◌∙◌, subst}
use mathlib.Core.Logic.{◌≢◌, ◌⊎◌, inl, inr}
use Prim.Native.Nat.{ℕ, zero, suc, ◌+◌, ◌≤◌, ◌<◌}
use native.Mathlib.Omega.{arith}
use native.Mathlib.Decide.{ℕ_discrete}
use mathlib.Core.Bool.{Bool, true, false, ◌&&◌}
use mathlib.Core.Option.{Option, none, some}
use mathlib.Core.List.{List, [], ◌∷◌}
use lib.Dec.{eqb}
use borrow.Author.Tests.{eq-eqb, eqb-true, lt-ltb, ne_eqb}
use Rattle.model.specs.Basics.{count_from, up_to}
use Rattle.model.specs.Graph.{chain_length, is_regular, lower_numbered, turn}
use Rattle.model.specs.Labels.{vertex_on_ring}
use Rattle.model.specs.Register.{Register, label_of, low_edge_of, marks_of}
use Rattle.model.specs.Distance.{distance}
use Rattle.model.specs.Queries.{chain_at, find, find_at, found, found_at, length_to, measure, measured, refuses, vertex_with, Reply}
use Rattle.model.specs.Series.{FindsOwn, OwnChain}
use Rattle.model.proofs.Basics.Booleans.{and_true, not_both, true_or_false}
use Rattle.model.proofs.Walks.Degree.{Proper, is_two}
use Rattle.model.proofs.Walks.Turn.{At}
use Rattle.model.proofs.Chains.Own.{lower_at, own_chain_lem, only_chain, ring_neither}
use Rattle.model.proofs.Chains.Reaches.{one_length, reaches_sum}
use Rattle.theory.proofs.Registers.Founded.{Founded, regular_landed}
use Rattle.theory.proofs.Registers.Facts.{LabelFacts, zero_then}
use Rattle.theory.proofs.Registers.Sides.{SidedIn}
use Rattle.model.proofs.Labels.Following.{low_at}

-- ---- find

with_label_yes : (r : Register) (label v : ℕ) (vs : List ℕ) → is_regular r.edges v ≡ true → label_of r v ≡ label → vertex_with r label (v ∷ vs) ≡ some v
unfolding vertex_with
with_label_yes r label v vs c e = rw (c, eq-eqb (label_of r v) label e, vertex_with)

with_label_no : (r : Register) (label v : ℕ) (vs : List ℕ) → (is_regular r.edges v ≡ true → label_of r v ≢ label) → vertex_with r label (v ∷ vs) ≡ vertex_with r label vs
unfolding vertex_with
with_label_no r label v vs n = go (is_regular r.edges v) refl
  where
    go : (b : Bool) → is_regular r.edges v ≡ b → vertex_with r label (v ∷ vs) ≡ vertex_with r label vs
    go true c = rw (c, ne_eqb (label_of r v) label (n c), vertex_with)
    go false c = rw (c, vertex_with)

-- the vertex with a label that one vertex alone wears
with_label_is : (r : Register) (label at n v : ℕ) → at ≤ v → v < at + n → is_regular r.edges v ≡ true → label_of r v ≡ label
    → ((w : ℕ) → is_regular r.edges w ≡ true → label_of r w ≡ label → w ≡ v) → vertex_with r label (count_from at n) ≡ some v
unfolding count_from
with_label_is r label at zero v l h c e only = absurd (omega arith)
with_label_is r label at (suc n) v l h c e only = go (ℕ_discrete at v) (λ i. with_label_is r label (suc at) n v i (omega arith) c e only)
  where
    go : Dec (at ≡ v) → (at < v → vertex_with r label (count_from (suc at) n) ≡ some v) → vertex_with r label (at ∷ count_from (suc at) n) ≡ some v
    go (yes q) next = rw q (with_label_yes r label v (count_from (suc v) n) c e)
    go (no q) next = with_label_no r label at (count_from (suc at) n) (λ c' e'. q (only at c' e')) ∙ next (omega (arith, q))

with_label_none : (r : Register) (label : ℕ) (vs : List ℕ) → ((v : ℕ) → is_regular r.edges v ≡ true → label_of r v ≢ label) → vertex_with r label vs ≡ none
unfolding vertex_with
with_label_none r label [] n = refl
with_label_none r label (v ∷ vs) n = with_label_no r label v vs (n v) ∙ with_label_none r label vs n

pub with_label_some : (r : Register) (label w : ℕ) (vs : List ℕ) → vertex_with r label vs ≡ some w → (is_regular r.edges w ≡ true) × (label_of r w ≡ label)
unfolding vertex_with
with_label_some r label w [] e = absurd (let z : ◌≡◌ {A = ℕ} 0 1 = cc in omega arith)
with_label_some r label w (v ∷ vs) e = go (is_regular r.edges v && eqb (label_of r v) label) refl (λ h. with_label_some r label w vs h)
  where
    go : (b : Bool) → is_regular r.edges v && eqb (label_of r v) label ≡ b
        → (vertex_with r label vs ≡ some w → (is_regular r.edges w ≡ true) × (label_of r w ≡ label)) → (is_regular r.edges w ≡ true) × (label_of r w ≡ label)
    go true q ih =
        let k : some v ≡ some w = rw (q, vertex_with) at e in
        let i : v ≡ w = cc in
        let both = and_true (is_regular r.edges v) (eqb (label_of r v) label) q in
        (rw i at both.0, rw i at (eqb-true (label_of r v) label both.1))
    go false q ih = ih (rw (q, vertex_with) at e)

-- a regular vertex's label finds that vertex
pub find_own : (r : Register) → Founded r → LabelFacts r → (v : ℕ) → is_regular r.edges v ≡ true → find r (label_of r v) ≡ found_at r v
unfolding find up_to
find_own r f c v q = rw (with_label_is r (label_of r v) 0 r.vertices v (omega arith) (omega (arith, regular_landed r f v q)) q refl only, find)
  where
    only : (w : ℕ) → is_regular r.edges w ≡ true → label_of r w ≡ label_of r v → w ≡ v
    only w q' e = c.unique w v (is_two r.edges w q') (is_two r.edges v q) e

-- and a label that none wears is refused
pub find_none : (r : Register) (label : ℕ) → ((v : ℕ) → is_regular r.edges v ≡ true → label_of r v ≢ label) → find r label ≡ refuses 8
unfolding find
find_none r label n = rw (with_label_none r label (up_to r.vertices) n, find)

-- 0 is such a label, so by its number no vertex is found that is singular or not landed
pub find_singular : (r : Register) → LabelFacts r → (v : ℕ) → is_regular r.edges v ≡ false → find_at r v ≡ refuses 8
unfolding find_at
find_singular r c v q = find_none r (label_of r v) (λ w t e. not_both (is_regular r.edges w) t (zero_then r c w (e ∙ c.singular_zero v q)))

-- a vertex that is not landed is refused with 8
pub find_not_landed : (r : Register) → Founded r → LabelFacts r → (v : ℕ) → r.vertices ≤ v → find_at r v ≡ refuses 8
find_not_landed r f c v h = go (true_or_false (is_regular r.edges v))
  where
    go : (is_regular r.edges v ≡ true) ⊎ (is_regular r.edges v ≡ false) → find_at r v ≡ refuses 8
    go (inl q) = absurd (omega (arith, regular_landed r f v q))
    go (inr q) = find_singular r c v q

-- ---- what is found at a vertex

pub found_open : (r : Register) (v : ℕ) → vertex_on_ring r.edges v ≡ false
    → found_at r v ≡ found (chain_at r v) v (length_to r.edges (low_edge_of r v) v) (length_to r.edges (turn r.edges (low_edge_of r v) v) v)
unfolding found_at
found_open r v t = rw t

-- in a ring: 0 and its length
pub found_ring : (r : Register) (v : ℕ) → vertex_on_ring r.edges v ≡ true
    → found_at r v ≡ found (chain_at r v) v 0 (chain_length r.edges (lower_numbered r.edges v))
unfolding found_at
found_ring r v t = rw t

-- the name is that of the vertex's own chain or ring, and the two lengths add up to its length
module _ (r : Register) (k : Founded r) (s : SidedIn r) where
  pr : Proper r.edges
  pr = k.proper

  pub finds_here : (v : ℕ) → is_regular r.edges v ≡ true → FindsOwn r v (found_at r v)
  unfolding vertex_on_ring marks_of low_at chain_at
  finds_here v c = go (true_or_false (vertex_on_ring r.edges v))
    where
      o : OwnChain r.edges v (chain_at r v)
      o = own_chain_lem r.edges pr v c

      a : At r.edges v (lower_numbered r.edges v)
      a = lower_at r.edges pr v c

      b : At r.edges v (low_edge_of r v)
      b = s.low_at_lem v (is_two r.edges v c)

      go : (vertex_on_ring r.edges v ≡ true) ⊎ (vertex_on_ring r.edges v ≡ false) → FindsOwn r v (found_at r v)
      go (inl t) =
          record {
            name = chain_at r v;
            low = 0;
            high = chain_length r.edges (lower_numbered r.edges v);
            reply_is = found_ring r v t;
            own = o;
            only = only_chain r.edges pr v c;
            adds_up = omega (arith, one_length r.edges pr (lower_numbered r.edges v) (chain_at r v) v o.inside o.has a);
            to_low = λ e. absurd (not_both (vertex_on_ring r.edges v) t e);
            in_ring = λ e. refl;
          }
      go (inr t) =
          record {
            name = chain_at r v;
            low = length_to r.edges (low_edge_of r v) v;
            high = length_to r.edges (turn r.edges (low_edge_of r v) v) v;
            reply_is = found_open r v t;
            own = o;
            only = only_chain r.edges pr v c;
            adds_up = reaches_sum r.edges pr (low_edge_of r v) (chain_at r v) v o.inside o.has b (ring_neither r.edges pr (lower_numbered r.edges v) (low_edge_of r v) v c a b t) c;
            to_low = λ e. refl;
            in_ring = λ e. absurd (not_both (vertex_on_ring r.edges v) e t);
          }

  -- the label of a regular vertex finds that one's own chain or ring
  pub finds_chain : LabelFacts r → (v : ℕ) → is_regular r.edges v ≡ true → FindsOwn r v (find r (label_of r v))
  finds_chain l v c = subst (λ (a : Reply). FindsOwn r v a) (sym (find_own r k l v c)) (finds_here v c)

  -- ---- whatever is found

  found_is : (a b w v name low high x : ℕ) → found x w a b ≡ found name v low high → (x ≡ name) × ((w ≡ v) × ((a ≡ low) × (b ≡ high)))
  found_is a b w v name low high x e = (cc, (cc, (cc, cc)))

  -- an answer is that of a vertex which wears the label
  pub found_wears : (label name v low high : ℕ) → find r label ≡ found name v low high
      → (is_regular r.edges v ≡ true) × ((label_of r v ≡ label) × (found_at r v ≡ found name v low high))
  unfolding find
  found_wears label name v low high e = go (vertex_with r label (up_to r.vertices)) refl
    where
      go : (q : Option ℕ) → vertex_with r label (up_to r.vertices) ≡ q
          → (is_regular r.edges v ≡ true) × ((label_of r v ≡ label) × (found_at r v ≡ found name v low high))
      go none q = absurd (let h : refuses 8 ≡ found name v low high = rw (q, find) at e in let z : ◌≡◌ {A = ℕ} 0 1 = cc in omega arith)
      go (some w) q =
          let c = with_label_some r label w (up_to r.vertices) q in
          let h : found_at r w ≡ found name v low high = rw (q, find) at e in
          let o = finds_here w c.0 in
          let i : w ≡ v = (found_is _ _ _ _ _ _ _ _ (sym o.reply_is ∙ h)).1.0 in
          (rw i at c.0, (rw i at c.1, rw i at h))

  -- whatever is found lies on the chain that is named, and its two lengths add up
  pub found_adds : (label name v low high : ℕ) → find r label ≡ found name v low high → OwnChain r.edges v name × (low + high ≡ chain_length r.edges name)
  found_adds label name v low high e =
      let w = found_wears label name v low high e in
      let o = finds_here v w.0 in
      let q = found_is _ _ _ _ _ _ _ _ (sym o.reply_is ∙ w.1.1) in
      (subst (λ (d : ℕ). OwnChain r.edges v d) q.0 o.own, omega (arith, o.adds_up, q.1.1.0, q.1.1.1, ap (chain_length r.edges) q.0))

  -- asked by a vertex, the answer is of that vertex
  pub found_at_lem : LabelFacts r → (w name v low high : ℕ) → find_at r w ≡ found name v low high → v ≡ w
  unfolding find_at
  found_at_lem l w name v low high e =
      let h = found_wears (label_of r w) name v low high e in
      l.unique v w (is_two r.edges v h.0) (is_two r.edges w (regular (true_or_false (is_regular r.edges w)))) h.1.0
    where
      regular : (is_regular r.edges w ≡ true) ⊎ (is_regular r.edges w ≡ false) → is_regular r.edges w ≡ true
      regular (inl c) = c
      regular (inr c) = absurd (let q : refuses 8 ≡ found name v low high = sym (find_singular r l w c) ∙ e in let z : ◌≡◌ {A = ℕ} 0 1 = cc in omega arith)

-- ---- distance

-- between two landed vertices the distance is answered
pub measure_is : (r : Register) (v w : ℕ) → v < r.vertices → w < r.vertices → measure r v w ≡ measured (distance r.edges v w)
unfolding measure
measure_is r v w a b = rw (lt-ltb v r.vertices a, lt-ltb w r.vertices b)
