-- Linked: at a vertex the table of sides says what the edges say. Then turns and far ends by the tables are those of the edges.
use Rattle.std.specs.Prelude.{if◌then◌else◌}
use mathlib.Core.Path.{◌≡◌, sym, ◌∙◌}
use mathlib.Core.Logic.{◌≢◌, ◌⊎◌, inl, inr}
use Prim.Native.Nat.{ℕ, ◌+◌, ◌*◌, ◌<◌}
use native.Mathlib.Omega.{arith}
use native.Mathlib.Decide.{ℕ_discrete}
use mathlib.Core.List.{List, [], ◌∷◌, ◌++◌}
use lib.ListN.{length, get_or, set}
use lib.Seq.{get_or-set_same, get_or-set_other}
use lib.Dec.{eqb}
use borrow.Author.Tests.{eq-eqb, ne_eqb}
use Rattle.model.specs.Graph.{Edge, degree, edge_at, ends_at, far, incident, only_edge, turn}
use Rattle.tables.specs.Steps.{far_in, set_pair, turn_in}
use Rattle.model.proofs.Walks.Degree.{Proper, degree_snoc, ends_at_le, two_ends, zero_or_one}
use Rattle.model.proofs.Walks.Turn.{At, two_edges, turn_between}
use Rattle.model.proofs.Walks.Snoc.{turn_old, incident_from_old}
use Rattle.model.proofs.Walks.NewEdge.{at_new}
use Rattle.agreement.proofs.Lists.{PairAt, pair_here, pair_other}

-- at v the sides are the low edge and the other one; a leaf has its one edge, any other vertex none
pub record Linked (es : List Edge) (sides lows : List ℕ) (v : ℕ) : Type 0 where
  pub low_at_lem : degree es v ≡ 2 → At es v (get_or lows v 0)
  pub regular : degree es v ≡ 2 → PairAt sides v (get_or lows v 0) (turn es (get_or lows v 0) v)
  pub leaf : degree es v ≡ 1 → PairAt sides v (only_edge es v) 0
  pub other : degree es v ≢ 1 → degree es v ≢ 2 → PairAt sides v 0 0

-- ---- reading

-- a turn by the sides is the turn at the vertex, whichever of its two edges stands on the low side
pub turn_by : (es : List Edge) (sides : List ℕ) (v low d : ℕ) → Proper es → degree es v ≡ 2 → At es v low → PairAt sides v low (turn es low v) → At es v d
    → turn_in sides d v ≡ turn es d v
unfolding turn_in
turn_by es sides v low d pr two l p a = go (ℕ_discrete low d)
  where
    go : Dec (low ≡ d) → (if eqb (get_or sides (2 * v) 0) d then get_or sides (2 * v + 1) 0 else get_or sides (2 * v) 0) ≡ turn es d v
    go (yes e) = rw (eq-eqb (get_or sides (2 * v) 0) d (p.0 ∙ e)) (p.1 ∙ rw e)
    go (no n) = rw (ne_eqb (get_or sides (2 * v) 0) d (λ e. n (sym p.0 ∙ e))) (p.0 ∙ sym (turn_between es v d low (two_edges es v pr two) a l (λ e. n (sym e))))

pub turn_agrees : (es : List Edge) (sides lows : List ℕ) (v d : ℕ) → Proper es → Linked es sides lows v → degree es v ≡ 2 → At es v d
    → turn_in sides d v ≡ turn es d v
turn_agrees es sides lows v d pr k two a = turn_by es sides v (get_or lows v 0) d pr two (k.low_at_lem two) (k.regular two) a

-- a far end by the table of ends is the edge's
pub far_agrees : (es : List Edge) (ends : List ℕ) (d v : ℕ) → PairAt ends d (edge_at es d).first (edge_at es d).second
    → far_in ends d v ≡ far es d v
unfolding far_in far
far_agrees es ends d v p = rw (p.0, p.1)

-- ---- writing

-- nothing at v is changed
pub linked_same : (es : List Edge) (sides sides' lows lows' : List ℕ) (v : ℕ) → PairAt sides' v (get_or sides (2 * v) 0) (get_or sides (2 * v + 1) 0)
    → get_or lows' v 0 ≡ get_or lows v 0 → Linked es sides lows v → Linked es sides' lows' v
linked_same es sides sides' lows lows' v p g k =
    record {
      low_at_lem = λ two. rw g (k.low_at_lem two);
      regular = λ two. let q = k.regular two in (rw (g, p.0) q.0, rw (g, p.1) q.1);
      leaf = λ one. let q = k.leaf one in (rw p.0 q.0, rw p.1 q.1);
      other = λ a b. let q = k.other a b in (rw p.0 q.0, rw p.1 q.1);
    }

-- a write at another vertex
pub linked_other : (es : List Edge) (sides lows : List ℕ) (v x a b low : ℕ) → v ≢ x → Linked es sides lows v
    → Linked es (set_pair sides x a b) (set lows x low) v
linked_other es sides lows v x a b low n k =
    linked_same es sides (set_pair sides x a b) lows (set lows x low) v (pair_other sides x v a b n) (get_or-set_other lows x v low 0 n) k

-- a regular vertex is written
pub linked_here : (es : List Edge) (sides lows : List ℕ) (v low high : ℕ) → 2 * v + 1 < length sides → v < length lows → degree es v ≡ 2
    → At es v low → turn es low v ≡ high → Linked es (set_pair sides v low high) (set lows v low) v
linked_here es sides lows v low high l h two a e =
    let g : get_or (set lows v low) v 0 ≡ low = get_or-set_same lows v low 0 h in
    let p = pair_here sides v low high l in
    record {
      low_at_lem = λ _. rw g a;
      regular = λ _. (rw g p.0, rw g (p.1 ∙ sym e));
      leaf = λ one. absurd (omega arith);
      other = λ a b. absurd (b two);
    }

-- ---- one edge more, at a vertex that it does not meet

-- a vertex that is neither end
pub off_ends : (n : Edge) (x y v : ℕ) → n.first ≢ n.second → ends_at x n ≡ 1 → ends_at y n ≡ 1 → x ≢ y → v ≢ x → v ≢ y → ends_at v n ≡ 0
off_ends n x y v df ox oy xy a b = go (zero_or_one (ends_at v n) (ends_at_le v n df))
  where
    which : (v ≡ x) ⊎ (v ≡ y) → ends_at v n ≡ 0
    which (inl e) = absurd (a e)
    which (inr e) = absurd (b e)

    go : (ends_at v n ≡ 0) ⊎ (ends_at v n ≡ 1) → ends_at v n ≡ 0
    go (inl z) = z
    go (inr o) = which (two_ends n x y v ox oy xy o)

module _ (es : List Edge) (n : Edge) (pr : Proper es) (v : ℕ) (z : ends_at v n ≡ 0) where
  -- its degree stays, and so does its only edge
  pub degree_old : degree (es ++ (n ∷ [])) v ≡ degree es v
  degree_old = omega (arith, degree_snoc es n v)

  pub only_edge_old : only_edge (es ++ (n ∷ [])) v ≡ only_edge es v
  unfolding only_edge incident
  only_edge_old = rw (incident_from_old 0 es n v pr z)

  -- a vertex that is neither end is linked with the edge if it was without
  pub linked_old : (sides lows : List ℕ) → Linked es sides lows v → Linked (es ++ (n ∷ [])) sides lows v
  linked_old sides lows k =
      record {
        low_at_lem = λ two. at_new es n (k.low_at_lem (sym degree_old ∙ two));
        regular = λ two. let q = k.regular (sym degree_old ∙ two) in (q.0, q.1 ∙ sym (turn_old es n v (get_or lows v 0) pr z));
        leaf = λ one. let q = k.leaf (sym degree_old ∙ one) in (q.0 ∙ sym only_edge_old, q.1);
        other = λ a b. k.other (λ x. a (degree_old ∙ x)) (λ x. b (degree_old ∙ x));
      }
