-- What holds of every register that landing leaves, taken from model for the proofs over the tables.
use mathlib.Core.Path.{◌≡◌}
use mathlib.Core.Logic.{◌≢◌}
use Prim.Native.Nat.{ℕ, ◌+◌, ◌≤◌, ◌<◌}
use native.Mathlib.Omega.{arith}
use mathlib.Core.List.{[], ◌∷◌, ◌++◌}
use mathlib.Core.Option.{some}
use lib.ListN.{length, get_or}
use Rattle.model.specs.Basics.{max_edges, max_vertices}
use Rattle.model.specs.Graph.{Edge, degree}
use Rattle.model.specs.Labels.{base}
use Rattle.model.specs.Register.{Register, low_edge_of, marks_of}
use Rattle.model.specs.Tables.{held, stored_of}
use Rattle.model.specs.Notions.{Reachable}
use Rattle.model.proofs.Walks.Degree.{Proper, AllLawful}
use Rattle.model.proofs.Walks.Turn.{At}
use Rattle.model.proofs.Walks.NewEdge.{at_old, last_at, Which, is_new, is_old, which}
use Rattle.theory.proofs.Registers.Held.{GrowsAgain}
use Rattle.theory.proofs.Registers.Founded.{Founded}
use Rattle.model.proofs.Labels.Following.{low_at}
use Rattle.theory.proofs.Registers.Labelled as labelled
use Rattle.theory.proofs.Registers.Sides as sides
use Rattle.theory.proofs.Registers.Kept.{kept_held}
use Rattle.theory.proofs.Registers.Lawful.{end_landed, ends_landed}
use Rattle.theory.proofs.Registers.Reachable as reachable
use Rattle.agreement.proofs.Renewing.{AllOlder}

module _ (r : Register) (g : Reachable r) where
  -- edges are lawful; they are at most 4,096, as are the vertices
  pub founded : Founded r
  founded = reachable.founded r g

  pub proper : Proper r.edges
  proper = founded.proper

  pub room : length r.edges ≤ max_edges
  room = founded.room

  pub few : r.vertices ≤ max_vertices
  few = founded.few

  -- a vertex at an edge is below 4,096
  pub landed_below : (v d : ℕ) → At r.edges v d → v < max_vertices
  landed_below v d a = omega (arith, ends_landed r.vertices r.edges founded.lawful v d a, few)

  -- .. with one edge more
  pub new_below : (e : Edge) → e.first < r.vertices → e.second < r.vertices → (v d : ℕ) → At (r.edges ++ (e ∷ [])) v d → v < max_vertices
  new_below e a b v d at = go (which r.edges e d at.inside)
    where
      go : Which r.edges e d → v < max_vertices
      go (is_old i) = landed_below v d (at_old r.edges e i at)
      go (is_new i) =
          let at' : At (r.edges ++ (e ∷ [])) v (length r.edges) = rw i at at in
          omega (arith, end_landed r.vertices e v a b (last_at r.edges e at'), few)

  -- labels and low edges have a place for each vertex
  pub labels_long : length r.labels ≡ max_vertices
  labels_long = founded.labels_long

  pub lows_long : length r.lows ≡ max_vertices
  lows_long = founded.lows_long

  -- the low edge of a regular vertex lies at it
  pub low_at_lem : (v : ℕ) → degree r.edges v ≡ 2 → At r.edges v (low_edge_of r v)
  unfolding low_at marks_of
  low_at_lem = (sides.sided r g).low_at_lem

  -- a singular vertex wears 0
  pub no_label : (v : ℕ) → degree r.edges v ≢ 2 → get_or r.labels v 0 ≡ 0
  unfolding marks_of
  no_label = (labelled.labelled r g).bare

  -- every regular vertex wears a label, below all of the next block
  pub older : AllOlder r.edges r.labels (base (r.blocks + 1))
  unfolding base
  older v two = let f = labelled.label_facts r g in (f.not_zero v two, omega (arith, f.most v))

  -- every edge has landed ends and a length from 1 to 100,000
  pub lawful : AllLawful r.vertices r.edges
  lawful = founded.lawful

  -- what is stored for it is held, and growing its own vertices and edges leaves it again
  pub stored_held : held (stored_of r) ≡ some r
  stored_held = kept_held r (reachable.kept r g)

  -- every register that landing leaves grows again from its own vertices and edges
  pub regrows : GrowsAgain r
  regrows = (reachable.kept r g).regrows
