-- The tables' edges: as a list, and that their ends are vertices.
use mathlib.Core.Path.{◌≡◌, refl, ap, ◌∙◌}
use Prim.Native.Nat.{ℕ, ◌+◌, ◌*◌, ◌<◌}
use native.Mathlib.Omega.{arith}
use mathlib.Core.List.{List, [], ◌∷◌, map}
use lib.ListN.{length, get_or, length-map}
use Rattle.model.specs.Basics.{up_to, max_vertices}
use Rattle.model.specs.Graph.{edge_at, no_edge}
use Rattle.model.specs.Distance.{Joins, forth, back, distance}
use Rattle.model.specs.Tables.{stored_edge, stored_edges}
use Rattle.model.proofs.Basics.Lists.{length_up_to, get_d_counted}
use Rattle.tables.specs.Meaning.{tables}
use Rattle.tables.specs.Steps.{edge_of, edges_of}
use Rattle.relaxing.specs.Distances.{Searchable}

-- the tables have m edges, each at its number
pub edges_length : (ends lengths : List ℕ) (m : ℕ) → length (edges_of ends lengths [] m) ≡ m
unfolding stored_edges
edges_length ends lengths m = length-map (up_to m) (edge_of ends lengths []) ∙ length_up_to m

pub edges_at_lem : (ends lengths : List ℕ) (m e : ℕ) → e < m → edge_at (edges_of ends lengths [] m) e ≡ edge_of ends lengths [] e
unfolding stored_edges up_to edge_at
edges_at_lem ends lengths m e h = get_d_counted (edge_of ends lengths []) no_edge 0 m e h ∙ ap (edge_of ends lengths []) (omega arith)

-- the other tables have no part in a distance
only_these : (degrees sides ends lengths volumes labels ds : List ℕ) (v w : ℕ)
    → distance (map (stored_edge (tables degrees sides ends lengths volumes labels)) ds) v w ≡ distance (map (edge_of ends lengths []) ds) v w
unfolding distance stored_edge
only_these degrees sides ends lengths volumes labels [] v w = refl
only_these degrees sides ends lengths volumes labels (d ∷ ds) v w =
    let same : (x y : ℕ) → distance (map (stored_edge (tables degrees sides ends lengths volumes labels)) ds) x y ≡ distance (map (edge_of ends lengths []) ds) x y =
    only_these degrees sides ends lengths volumes labels ds in
    let a = get_or ends (2 * d) 0 in
    let b = get_or ends (2 * d + 1) 0 in
    rw (same v w, same v a, same b w, same v b, same a w)

-- a distance over the stored edges is one over ends and lengths alone
pub distance_only : (degrees sides ends lengths volumes labels : List ℕ) (m v w : ℕ)
    → distance (stored_edges (tables degrees sides ends lengths volumes labels) m) v w ≡ distance (edges_of ends lengths [] m) v w
unfolding stored_edges
distance_only degrees sides ends lengths volumes labels m v w = only_these degrees sides ends lengths volumes labels (up_to m) v w

-- both ends of an edge that can be searched are vertices
pub ends_below : {ends lengths : List ℕ} {m e v u : ℕ} → Searchable ends lengths m → e < m → Joins (edge_of ends lengths [] e) v u → (v < max_vertices) × (u < max_vertices)
unfolding stored_edge
ends_below {e = e} h l (forth p q) = (rw (← p) (h.firsts e l), rw (← q) (h.seconds e l))
ends_below {e = e} h l (back p q) = (rw (← p) (h.seconds e l), rw (← q) (h.firsts e l))
