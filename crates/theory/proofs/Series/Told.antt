-- The edges by which a register is reached are its own, and its total counts the labels that they changed.
use mathlib.Core.Path.{◌≡◌, refl, sym, ap, ◌∙◌, subst}
use Prim.Native.Nat.{suc, ◌+◌}
use native.Mathlib.Omega.{arith}
use mathlib.Core.List.{List, [], ◌∷◌, ◌++◌}
use lib.ListN.{length}
use Rattle.model.specs.Graph.{Edge}
use Rattle.model.specs.Register.{Register, empty, with_edge, with_vertex}
use Rattle.model.specs.Series.{Landing, landed_edges, landing_of, relabelled_by}
use Rattle.model.specs.Notions.{Reachable, from_empty, history, with_edge_lem, with_vertex_lem}
use Rattle.model.proofs.Registers.Accepted.{accepted, added}

-- the register's edges are those landed, and its total counts the labels that they changed
pub record Told (r : Register) (ls : List Landing) : Type 0 where
  pub edges_are : landed_edges ls ≡ r.edges
  pub total_is : r.relabellings ≡ relabelled_by ls

-- ---- sums over landings

edges_append : (ls ks : List Landing) → landed_edges (ls ++ ks) ≡ landed_edges ls ++ landed_edges ks
unfolding landed_edges
edges_append [] ks = refl
edges_append (l ∷ ls) ks = ap (λ (es : List Edge). l.edge ∷ es) (edges_append ls ks)

relabelled_append : (ls ks : List Landing) → relabelled_by (ls ++ ks) ≡ relabelled_by ls + relabelled_by ks
unfolding relabelled_by
relabelled_append [] ks = omega arith
relabelled_append (l ∷ ls) ks = omega (arith, relabelled_append ls ks)

-- there is one edge for each landing
pub edges_count : (ls : List Landing) → length (landed_edges ls) ≡ length ls
unfolding landed_edges
edges_count [] = refl
edges_count (l ∷ ls) = ap suc (edges_count ls)

-- ---- one record

told_empty : Told empty []
unfolding empty landed_edges relabelled_by
told_empty = record { edges_are = refl; total_is = refl }

told_vertex : (r : Register) (ls : List Landing) → Told r ls → Told (with_vertex r) ls
unfolding with_vertex
told_vertex r ls t = record { edges_are = t.edges_are; total_is = t.total_is }

told_edge : (r : Register) (e : Edge) (ls : List Landing) → Told r ls → Told (with_edge r e) (ls ++ (landing_of r e (with_edge r e) ∷ []))
unfolding with_edge landed_edges relabelled_by
told_edge r e ls t =
    record {
      edges_are = edges_append ls (landing_of r e (with_edge r e) ∷ []) ∙ ap (λ (es : List Edge). es ++ (e ∷ [])) t.edges_are;
      total_is = omega (arith, relabelled_append ls (landing_of r e (with_edge r e) ∷ []), t.total_is);
    }

-- ---- all records of a register

-- a register's edges are those of its landings, and its total counts the labels that they changed
pub history_told : (r : Register) (k : Reachable r) → Told r (history k)
unfolding history
history_told r (from_empty q) = subst (λ (s : Register). Told s []) (sym q) told_empty
history_told r (with_vertex_lem {r = s} k h) =
    subst (λ (t : Register). Told t (history k)) (added s r h).1 (told_vertex s (history k) (history_told s k))
history_told r (with_edge_lem {r = s} e k h) =
    subst (λ (t : Register). Told t (history k ++ (landing_of s e t ∷ []))) (accepted s e r h).1 (told_edge s e (history k) (history_told s k))
