-- A vertex beside a split, to which relabellings return (document 02, S-12): its chain starts small again. The list is computed, and refutes a single
-- logarithm.
use mathlib.Core.Path.{◌≡◌, refl, subst}
use Prim.Native.Nat.{ℕ, zero, suc, ◌+◌, ◌≤◌, ◌<◌}
use native.Mathlib.Omega.{arith}
use mathlib.Core.Bool.{true}
use mathlib.Core.List.{List, [], ◌∷◌, ◌++◌}
use lib.ListN.{length}
use Rattle.model.specs.Basics.{floor_log, greatest, max_edges}
use Rattle.model.specs.Graph.{Edge, chain_of, edge_at, end_onwards, ends_at, far, is_leaf, is_regular, onwards}
use Rattle.model.specs.Register.{empty}
use Rattle.model.specs.Format.{grow_list, list_of}
use Rattle.model.specs.Series.{Landing, landed_by}
use Rattle.model.specs.Notions.{leaf_room, most_times, times_relabelled}
use Rattle.model.specs.Values.{edge}
use Rattle.model.proofs.Computing.{computing}
use Rattle.model.proofs.Values.{lists}

-- the edges that a list lands
unfoldable pub grown_by : List ℕ → List Landing
grown_by bs = landed_by max_edges empty bs

-- n edges, each from a vertex to the next one, `apart` vertices from edge to edge
unfoldable pub every : ℕ → ℕ → ℕ → List Edge
every at apart zero = []
every at apart (suc n) = edge at (at + 1) 1 ∷ every (at + apart) apart n

-- Vertex 1 lies on a line of three vertices, which gives way to one of three, then to one of six, and is extended: 0-1-..-13. Then the edge 2-14
-- splits it beside vertex 1, which is left with one leaf, 0.
unfoldable pub beside_split : List Edge
beside_split = every 0 1 2 ++ every 3 1 2 ++ (edge 3 2 1 ∷ []) ++ every 6 1 5 ++ (edge 6 5 1 ∷ []) ++ every 11 1 2 ++ (edge 2 14 1 ∷ [])

unfoldable pub beside : List ℕ
beside = list_of 24 beside_split

-- Its chain 2-1-0 gives way to a line of three vertices, then to one of six, and at last to the rest of the split line, 2-3-..-13.
unfoldable pub returning : List ℕ
returning = list_of 24 (beside_split ++ every 15 1 2 ++ (edge 15 0 1 ∷ []) ++ every 18 1 5 ++ (edge 18 17 1 ∷ edge 13 23 1 ∷ []))

-- the edges of the first list, where edge 0 leads from vertex 1 to the leaf 0
abbrev pub beside_edges : List Edge
beside_edges = (grow_list beside).register.edges

pub record Returning : Type 0 where
  pub accepted : length (grown_by returning) ≡ 24
  pub times : times_relabelled 1 (grown_by returning) ≡ 5
  pub logarithm : floor_log (length (grown_by returning)) ≡ 4
  pub bound : most_times 24 ≡ 8
  pub times_beside : times_relabelled 1 (grown_by beside) ≡ 2
  pub edges_beside : length beside_edges ≡ 14
  pub meets : ends_at 1 (edge_at beside_edges 0) ≡ 1
  pub regular : is_regular beside_edges 1 ≡ true
  pub leaf : is_leaf beside_edges (end_onwards beside_edges 0 (far beside_edges 0 1)) ≡ true
  pub passes : onwards beside_edges 0 (far beside_edges 0 1) ≡ []
  pub room_beside : leaf_room 0 14 ≡ 14
  pub chain_beside : length (chain_of beside_edges 0).edges ≡ 2

pub returned : Returning
unfolding computing lists grown_by every beside_split beside returning
returned =
    record {
      accepted = refl;
      times = refl;
      logarithm = refl;
      bound = refl;
      times_beside = refl;
      edges_beside = refl;
      meets = refl;
      regular = refl;
      leaf = refl;
      passes = refl;
      room_beside = refl;
      chain_beside = refl;
    }

-- ---- so neither the 2 in the bound for one vertex can be left out, nor, where its chain has one leaf, the number of all edges: there those of
-- its own chain do not bound it, as they do on a ring and between two leaves

pub needs_two : ((bs : List ℕ) (v : ℕ) → 1 ≤ length (grown_by bs) → times_relabelled v (grown_by bs) ≤ floor_log (length (grown_by bs))) → ⊥
needs_two few = omega (arith, few returning 1 (omega (arith, returned.accepted)), returned.times, returned.logarithm)

logarithm_of_two : floor_log 2 ≡ 1
unfolding floor_log greatest
logarithm_of_two = refl

pub needs_all_edges : ((bs : List ℕ) (v d : ℕ)
    → let es = (grow_list bs).register.edges in d < length es → ends_at v (edge_at es d) ≡ 1 → is_regular es v ≡ true → is_leaf es (end_onwards es d (far es d v)) ≡ true
    → times_relabelled v (grown_by bs) ≤ floor_log (length (chain_of es d).edges)) → ⊥
needs_all_edges few =
    let most : times_relabelled 1 (grown_by beside) ≤ floor_log 2 =
    subst (λ (n : ℕ). times_relabelled 1 (grown_by beside) ≤ floor_log n) returned.chain_beside
    (few beside 1 0 (omega (arith, returned.edges_beside)) returned.meets returned.regular returned.leaf) in
    omega (arith, most, returned.times_beside, logarithm_of_two)
