-- One edge more, which meets one vertex of a ring: "the ring becomes a loop run at it" (document 02, S-2), a chain with the same edges from
-- this vertex to itself.
use mathlib.Core.Path.{◌≡◌, refl, sym, subst}
use mathlib.Core.Logic.{◌≢◌, inl, inr}
use Prim.Native.Nat.{ℕ, ◌<◌}
use native.Mathlib.Omega.{arith}
use mathlib.Core.Bool.{true, false}
use mathlib.Core.List.Memᴰ.{head as at_head}
use mathlib.Core.List.Memᴰ.{tail as in_Tail}
use mathlib.Core.List.{List, [], ◌∷◌, ◌++◌, map, Memᴰ as Mem}
use lib.ListN.{length}
use Rattle.model.specs.Graph.{Chain, Edge, Pass, at_of, chain_of, degree, edge_at, edge_on_ring, ends_at, is_regular, once_round}
use Rattle.model.specs.Notions.{SameChain, SameEdges, reversed}
use Rattle.model.proofs.Walks.Degree.{Proper, degree_snoc, is_two, not_regular, proper_snoc}
use Rattle.model.proofs.Walks.Turn.{At, some_edge}
use Rattle.model.proofs.Walks.Joins.{across}
use Rattle.model.proofs.Walks.Places.{off_mem}
use Rattle.model.proofs.Walks.Snoc.{Clear, far_old, trail_old}
use Rattle.model.proofs.Walks.NewEdge.{at_new}
use Rattle.model.proofs.Walks.Round.{Round, ring_round}
use Rattle.model.proofs.Walks.Loops.{SameLoop, loop_both, loop_regular, loop_ring, loop_edges, loop_inner, loops_same}
use Rattle.model.proofs.Chains.Same.{Line, chain_of_line, line_chain, same_back, same_mem}
use Rattle.model.proofs.Chains.Partition.{first_at, own_round, ring_edges_lem, ring_inner}

clear_of : (p : Edge) (ss : List Pass) → ((x : ℕ) → Mem x (map at_of ss) → ends_at x p ≡ 0) → Clear p ss
unfolding at_of
clear_of p [] off = tt
clear_of p (s ∷ ss) off = (off s.at (at_head refl), clear_of p ss (λ x m. off x (in_Tail m)))

-- both ends of a chain that starts and stops at one vertex, read in either direction
one_end : (c k : Chain) (v : ℕ) → SameChain c k → k.start ≡ v → k.stop ≡ v → (c.start ≡ v) × (c.stop ≡ v)
unfolding reversed
one_end c k v (inl e) s t = rw e (s, t)
one_end c k v (inr e) s t = rw e (t, s)

module _ (es : List Edge) (p : Edge) (pr : Proper es) (differ : p.first ≢ p.second) (d v : ℕ) (h : d < length es) (t : edge_on_ring es d ≡ true)
    (m : Mem v (chain_of es d).inner) (meets : ends_at v p ≡ 1) (missed : (w : ℕ) → Mem w (chain_of es d).inner → w ≢ v → ends_at w p ≡ 0) where
  abbrev new : List Edge
  new = es ++ (p ∷ [])

  proper_new : Proper new
  proper_new = proper_snoc es p pr differ

  abbrev a : ℕ
  a = (edge_at es d).first

  at_a : At es a d
  at_a = first_at es pr d h

  k : Round es d a
  k = own_round es pr d h t

  n : Mem v (loop_inner es d a)
  n = subst (λ (l : List ℕ). Mem v l) (ring_inner es pr d t) m

  two : degree es v ≡ 2
  two = is_two es v (loop_regular es pr d a at_a k v n)

  -- an edge of the ring at this vertex, and once round along it
  j : ℕ
  j = (some_edge es v pr two).0

  at_j : At es v j
  unfolding j
  at_j = (some_edge es v pr two).1

  on_j : Mem j (loop_edges es d a)
  on_j = loop_both es pr d a at_a k v j n at_j

  k' : Round es j v
  k' = ring_round es pr j v (loop_ring es pr d a at_a k j on_j) at_j

  s : SameLoop es pr d a j v
  s = loops_same es pr d a j v at_a k at_j k' on_j

  clear : Clear p (once_round es j v)
  clear = clear_of p (once_round es j v) off
    where
      off : (x : ℕ) → Mem x (map at_of (once_round es j v)) → ends_at x p ≡ 0
      off x i =
          missed x (subst (λ (l : List ℕ). Mem x l) (sym (ring_inner es pr d t)) (s.inner_back x (in_Tail i)))
          (λ q. off_mem (once_round es j v) v k'.off (subst (λ (z : ℕ). Mem z (map at_of (once_round es j v))) q i))

  singular : is_regular new v ≡ false
  singular = not_regular new v (λ q. omega (arith, degree_snoc es p v, two, meets))

  line : Line new
  line =
      record {
        start = v;
        first = j;
        passes = once_round es j v;
        last = k'.last;
        stop = v;
        at = at_new es p at_j;
        trail = rw (far_old es p j v at_j.inside) (trail_old p pr (across es j v pr at_j).at clear k'.trail);
        starts = singular;
        stops = singular;
      }

  same : SameChain (chain_of new d) (line_chain line)
  unfolding line
  same = chain_of_line new proper_new line d (s.edges_in_lem d (at_head refl))

  same_edges : SameEdges (chain_of new d) (chain_of es d)
  unfolding line_chain line
  same_edges =
      record {
        edges_in_lem = λ x i. subst (λ (l : List ℕ). Mem x l) (sym (ring_edges_lem es pr d t)) (s.edges_back x (same_mem _ _ x same i));
        edges_back = λ x i. same_mem _ _ x (same_back _ _ same) (s.edges_in_lem x (subst (λ (l : List ℕ). Mem x l) (ring_edges_lem es pr d t) i));
      }

  -- with the edge the ring is a chain from this vertex to itself, with the same edges
  pub ring_opened : ((chain_of (es ++ (p ∷ [])) d).start ≡ v) × ((chain_of (es ++ (p ∷ [])) d).stop ≡ v) × SameEdges (chain_of (es ++ (p ∷ [])) d) (chain_of es d)
  unfolding line_chain line
  ring_opened = let o = one_end (chain_of new d) (line_chain line) v same refl refl in (o.0, o.1, same_edges)
