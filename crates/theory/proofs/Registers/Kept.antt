-- What every landing keeps, as one invariant, and that the tables of such a register have the right sizes.
use mathlib.Core.Path.{◌≡◌, refl}
use Prim.Native.Nat.{ℕ, ◌*◌, ◌≤◌, ◌<◌}
use native.Mathlib.Omega.{arith}
use mathlib.Core.Bool.{true}
use mathlib.Core.Option.{some}
use mathlib.Core.List.{List}
use lib.ListN.{length, drop, replicate, length-append, length-drop, length-replicate, length-map}
use Rattle.model.specs.Basics.{in_front, max_edges, max_vertices, up_to}
use Rattle.model.specs.Graph.{Edge, degree}
use Rattle.model.specs.Register.{Register, empty, with_edge, with_vertex}
use Rattle.model.specs.Tables.{cleared, edge_lengths, edge_volumes, ends_of, fits, held, padded, right_sizes, sizes, stored_of, tables_of}
use Rattle.model.proofs.Computing.{computing}
use Rattle.model.proofs.Basics.Lists.{length_up_to}
use Rattle.model.specs.Notions.{Admissible}
use Rattle.theory.proofs.Registers.Held.{GrowsAgain, is_held, empty_regrows, vertex_regrows, edge_regrows}
use Rattle.model.proofs.Registers.ReadBack.{length_ends, length_lengths, length_sides, length_volumes}
use Rattle.theory.proofs.Registers.Equality.{eq_list_refl}
use Rattle.theory.proofs.Registers.Founded.{Founded, founded_edge, founded_empty, founded_vertex}

-- The edges and tables are as they should be, and the register grows again from its own vertices and edges.
pub record Kept (r : Register) : Type 0 where
  pub founded : Founded r
  pub regrows : GrowsAgain r

-- the empty register has the invariant, and a vertex and an edge more keep it
pub kept_empty : Kept empty
kept_empty = record { founded = founded_empty; regrows = empty_regrows }

pub kept_vertex : (r : Register) → Kept r → r.vertices < max_vertices → Kept (with_vertex r)
kept_vertex r k h = record { founded = founded_vertex r k.founded h; regrows = vertex_regrows r k.regrows }

pub kept_edge : (r : Register) (e : Edge) → Kept r → Admissible r e → Kept (with_edge r e)
kept_edge r e k a =
    record { founded = founded_edge r e k.founded a; regrows = edge_regrows r e k.regrows a }

-- what is stored for a register with the invariant is held
pub kept_held : (r : Register) → Kept r → held (stored_of r) ≡ some r
kept_held r k = is_held r k.founded.few k.regrows

-- ---- the sizes of the tables

length_padded : (n : ℕ) (xs : List ℕ) → length xs ≤ n → length (padded n xs) ≡ n
unfolding padded in_front
length_padded n xs h =
    omega (
      arith,
      length-append xs (drop (length xs) (replicate n 0)),
      length-drop {A = ℕ} (length xs) (replicate n 0),
      length-replicate {A = ℕ} n 0,
    )

-- with a table of labels of its full length, and no more edges than there is room for, all six are right
pub sizes_right : (r : Register) → length r.labels ≡ max_vertices → length r.edges ≤ max_edges → sizes (tables_of r) ≡ right_sizes
unfolding sizes right_sizes tables_of
sizes_right r t l =
    let vs = up_to max_vertices in
    rw (
      length-map vs (λ v. degree r.edges v),
      length_sides r vs,
      length_up_to max_vertices,
      length_padded (2 * max_edges) (ends_of r.edges) (omega (arith, length_ends r.edges)),
      length_padded max_edges (edge_lengths r.edges) (omega (arith, length_lengths r.edges)),
      length_padded max_edges (edge_volumes r.edges) (omega (arith, length_volumes r.edges)),
      t,
    )

-- the tables of a register with the invariant have the right sizes
pub kept_fits : (r : Register) → Kept r → fits (tables_of r) ≡ true
unfolding fits
kept_fits r k = rw (sizes_right r k.founded.labels_long k.founded.room) (eq_list_refl right_sizes)

-- cleared tables have the right sizes
pub cleared_fits : fits cleared ≡ true
unfolding computing
cleared_fits = refl
