-- On rings: the chain of an edge is a ring of regular vertices, and every ring with this edge is it, with as many vertices and as long.
use mathlib.Core.Path.{◌≡◌, refl, sym, ap, ◌∙◌, subst}
use mathlib.Core.Logic.{◌⊎◌, inl, inr}
use Prim.Native.Nat.{ℕ, ◌≤◌, ◌<◌}
use native.Mathlib.Omega.{arith}
use mathlib.Core.Bool.{true, false}
use mathlib.Core.List.Memᴰ.{head as at_head}
use mathlib.Core.List.Memᴰ.{tail as in_Tail}
use mathlib.Core.List.{List, ◌∷◌, map, Memᴰ as Mem}
use lib.ListN.{length, length-map}
use Rattle.model.specs.Basics.{least, sum}
use Rattle.model.specs.Graph.{Chain, Edge, after_of, chain_length, chain_volume, lengths_of, volume_at, volume_sum, at_of, chain_of, edge_at, is_regular, edge_on_ring, ring_chain, once_round}
use Rattle.model.specs.Notions.{IsRing, NoTwice, SameRing}
use Rattle.model.proofs.Walks.Degree.{Proper}
use Rattle.model.proofs.Walks.Turn.{At}
use Rattle.model.proofs.Walks.Joins.{across, joins_of}
use Rattle.model.proofs.Walks.Trail.{afters}
use Rattle.model.proofs.Walks.Round.{Round, round_first, round_is, round_once}
use Rattle.model.proofs.Chains.Same.{chain_ring, line_chain, Line, LineOf}
use Rattle.model.proofs.Chains.Partition.{first_at, least_le, least_mem, own_line, own_round, ring_edges_lem, ring_inner}
use Rattle.model.proofs.Walks.Loops.{SameLoop, loop_below, loop_distinct, loop_regular, loop_ring, loop_edges, loop_inner, loops_same}
use Rattle.model.proofs.Basics.Counting.{below_mem}
use Rattle.model.proofs.Basics.Booleans.{true_or_false}
use Rattle.model.proofs.Walks.Places.{off_mem, once_no_twice}
use Rattle.model.proofs.Walks.Once.{at_once, first_at_once}
use Rattle.model.proofs.Chains.Sums.{SameSums, same_members}
use Rattle.model.proofs.Chains.Exact.{AsTrail, no_twice, path_trail, trail_path}

module _ (es : List Edge) (pr : Proper es) where
  -- once round from v along edge d
  abbrev pub ring_from : ℕ → ℕ → Chain
  ring_from d v =
      record {
        start = least v (map at_of (once_round es d v));
        inner = loop_inner es d v;
        stop = least v (map at_of (once_round es d v));
        edges = loop_edges es d v;
      }

  -- once round is a ring
  pub loop_is_ring : (d v : ℕ) → At es v d → Round es d v → IsRing es (ring_from d v)
  loop_is_ring d v at k =
      record {
        from = v;
        others = map at_of (once_round es d v);
        inner_are = refl;
        path = trail_path es pr (across es d v pr at).at (joins_of es d v pr at) k.trail;
        between = loop_regular es pr d v at k;
        no_edge_twice = no_twice (loop_edges es d v) (loop_distinct es pr d v at k);
        lowest_in = least_mem v (map at_of (once_round es d v));
        lowest = λ w m. least_le v (map at_of (once_round es d v)) w m;
        closed = refl;
      }

  -- on rings the chain of an edge is a ring
  pub ring_is_ring : (d : ℕ) → d < length es → edge_on_ring es d ≡ true → IsRing es (chain_of es d)
  unfolding ring_chain afters
  ring_is_ring d h t = rw (chain_ring es d t) (loop_is_ring d (edge_at es d).first (first_at es pr d h) (own_round es pr d h t))

  -- a ring as once round from its first vertex
  record AsLoop (c : Chain) : Type 0 where
    edge : ℕ
    from : ℕ
    at : At es from edge
    round_is : Round es edge from
    edges_are : c.edges ≡ loop_edges es edge from
    inner_are : c.inner ≡ loop_inner es edge from

  as_loop : (c : Chain) → IsRing es c → AsLoop c
  as_loop c k =
      let v = k.from in
      let r : AsTrail es pr v c.edges k.others v = path_trail es pr k.path (λ x m. k.between x (rw k.inner_are (in_Tail m))) k.no_edge_twice in
      let reg : is_regular es v ≡ true = k.between v (rw k.inner_are (at_head refl)) in
      let once : NoTwice (r.first ∷ afters r.passes) = subst (λ (l : List ℕ). NoTwice l) r.edges_are k.no_edge_twice in
      let off = round_once es pr r.at reg r.trail once.0 in
      let i : once_round es r.first v ≡ r.passes = round_is es pr r.at reg r.trail off in
      record {
        edge = r.first;
        from = v;
        at = r.at;
        round_is = round_first es pr r.at reg r.trail off;
        edges_are = rw i r.edges_are;
        inner_are = rw i (k.inner_are ∙ ap (λ (l : List ℕ). v ∷ l) r.inner_is);
      }

  -- the lowest vertex is one
  same_lowest : (c k : Chain) → IsRing es c → IsRing es k → ((v : ℕ) → Mem v c.inner → Mem v k.inner) → ((v : ℕ) → Mem v k.inner → Mem v c.inner)
      → c.start ≡ k.start
  same_lowest c k p q on back =
      let x : c.start ≤ k.start = p.lowest k.start (back k.start q.lowest_in) in
      let y : k.start ≤ c.start = q.lowest c.start (on c.start p.lowest_in) in
      omega arith

  -- so a ring with edge d is the ring of d
  pub ring_only : (c : Chain) (d : ℕ) → IsRing es c → Mem d c.edges → (edge_on_ring es d ≡ true) × SameRing c (chain_of es d)
  ring_only c d k m = (
    t,
    record {
      start_is = starts;
      stop_is = k.closed ∙ starts ∙ sym own.closed;
      edges_in_lem = λ j n. edges_on j n;
      edges_back = λ j n. edges_back' j n;
      inner_in = inner_on;
      inner_back = inner_back';
    },
  )
    where
      l : AsLoop c
      l = as_loop c k

      md : Mem d (loop_edges es l.edge l.from)
      md = subst (λ (z : List ℕ). Mem d z) l.edges_are m

      t : edge_on_ring es d ≡ true
      t = loop_ring es pr l.edge l.from l.at l.round_is d md

      h : d < length es
      h = below_mem (length es) (loop_edges es l.edge l.from) (loop_below es pr l.edge l.from l.at l.round_is) d md

      own : IsRing es (chain_of es d)
      own = ring_is_ring d h t

      s : SameLoop es pr l.edge l.from d (edge_at es d).first
      s = loops_same es pr l.edge l.from d _ l.at l.round_is (first_at es pr d h) (own_round es pr d h t) md

      edges_on : (j : ℕ) → Mem j c.edges → Mem j (chain_of es d).edges
      edges_on j n = subst (λ (z : List ℕ). Mem j z) (sym (ring_edges_lem es pr d t)) (s.edges_in_lem j (subst (λ (z : List ℕ). Mem j z) l.edges_are n))

      edges_back' : (j : ℕ) → Mem j (chain_of es d).edges → Mem j c.edges
      edges_back' j n = subst (λ (z : List ℕ). Mem j z) (sym l.edges_are) (s.edges_back j (subst (λ (z : List ℕ). Mem j z) (ring_edges_lem es pr d t) n))

      inner_on : (v : ℕ) → Mem v c.inner → Mem v (chain_of es d).inner
      inner_on v n = subst (λ (z : List ℕ). Mem v z) (sym (ring_inner es pr d t)) (s.inner_in v (subst (λ (z : List ℕ). Mem v z) l.inner_are n))

      inner_back' : (v : ℕ) → Mem v (chain_of es d).inner → Mem v c.inner
      inner_back' v n = subst (λ (z : List ℕ). Mem v z) (sym l.inner_are) (s.inner_back v (subst (λ (z : List ℕ). Mem v z) (ring_inner es pr d t) n))

      starts : c.start ≡ (chain_of es d).start
      starts = same_lowest c (chain_of es d) k own inner_on inner_back'

  -- and has as many vertices as it, its length and its volume
  pub ring_row : (c : Chain) (d : ℕ) → IsRing es c → Mem d c.edges → (length c.inner ≡ length (chain_of es d).inner)
      × (sum (lengths_of es c.edges) ≡ chain_length es d) × (volume_sum (map (volume_at es) c.edges) ≡ chain_volume es d)
  unfolding chain_length chain_volume afters
  ring_row c d k m = (
    ap length l.inner_are ∙ loop_count l.edge l.from ∙ sums.length_is ∙ sym (loop_count d v) ∙ sym (ap length (ring_inner es pr d t)),
    ap (λ (z : List ℕ). sum (lengths_of es z)) l.edges_are ∙ sums.sum_is ∙ sym (ap (λ (z : List ℕ). sum (lengths_of es z)) (ring_edges_lem es pr d t)),
    ap (λ (z : List ℕ). volume_sum (map (volume_at es) z)) l.edges_are ∙ sums.volume_is
        ∙ sym (ap (λ (z : List ℕ). volume_sum (map (volume_at es) z)) (ring_edges_lem es pr d t)),
  )
    where
      l : AsLoop c
      l = as_loop c k

      t : edge_on_ring es d ≡ true
      t = (ring_only c d k m).0

      md : Mem d (loop_edges es l.edge l.from)
      md = subst (λ (z : List ℕ). Mem d z) l.edges_are m

      h : d < length es
      h = below_mem (length es) (loop_edges es l.edge l.from) (loop_below es pr l.edge l.from l.at l.round_is) d md

      v : ℕ
      v = (edge_at es d).first

      loop_count : (e x : ℕ) → length (loop_inner es e x) ≡ length (loop_edges es e x)
      loop_count e x = omega (arith, length-map (once_round es e x) at_of, length-map (once_round es e x) after_of)

      s : SameLoop es pr l.edge l.from d v
      s = loops_same es pr l.edge l.from d v l.at l.round_is (first_at es pr d h) (own_round es pr d h t) md

      sums : SameSums es (loop_edges es l.edge l.from) (loop_edges es d v)
      sums =
          same_members es (length es) _ _ (loop_distinct es pr l.edge l.from l.at l.round_is) (loop_distinct es pr d v (first_at es pr d h) (own_round es pr d h t))
          (loop_below es pr l.edge l.from l.at l.round_is) (loop_below es pr d v (first_at es pr d h) (own_round es pr d h t)) s.edges_in_lem s.edges_back

  -- ---- no chain and no ring has a vertex twice

  -- the chain or ring of an edge has no regular vertex twice
  pub no_vertex_twice : (d : ℕ) → d < length es → NoTwice (chain_of es d).inner
  unfolding line_chain at_of
  no_vertex_twice d h = go (true_or_false (edge_on_ring es d))
    where
      on_line : LineOf es (chain_of es d) → NoTwice (chain_of es d).inner
      on_line o =
          let l : Line es = o.line in
          let x = across es l.first l.start pr l.at in
          subst (λ (c : Chain). NoTwice c.inner) o.chain_is (once_no_twice l.passes (at_once es pr x.at l.trail l.stops))

      on_loop : Round es d (edge_at es d).first → NoTwice (loop_inner es d (edge_at es d).first)
      on_loop k =
          let x = across es d (edge_at es d).first pr (first_at es pr d h) in
          let ss = once_round es d (edge_at es d).first in
          (off_mem ss (edge_at es d).first k.off, once_no_twice ss (first_at_once es pr x.at k.trail k.off))

      go : (edge_on_ring es d ≡ true) ⊎ (edge_on_ring es d ≡ false) → NoTwice (chain_of es d).inner
      go (inl t) = subst (λ (l : List ℕ). NoTwice l) (sym (ring_inner es pr d t)) (on_loop (own_round es pr d h t))
      go (inr f) = on_line (own_line es pr d h f)
