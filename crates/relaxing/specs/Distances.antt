-- What the contracts say of tentative distances. `distances` are the tentative distances to the goal, one for each vertex; m is the number of edges.
-- Volumes have no part in a way: `edge_of ends lengths []`.
use Rattle.std.specs.Prelude.{◌≡◌, ℕ, ◌+◌, ◌*◌, ◌≤◌, ◌<◌, min, List, [], length, get_or, set}
use Rattle.model.specs.Basics.{sum, max_vertices, max_edges, max_length}
use Rattle.model.specs.Distance.{Joins}
use Rattle.tables.specs.Steps.{edge_of}

-- m edges as landing leaves them: at most 4,096, within the tables, the ends below 4,096, the lengths from 1 to 100,000
pub record Searchable (ends lengths : List ℕ) (m : ℕ) : Type 0 where
  pub few : m ≤ max_edges
  pub ends_room : 2 * m ≤ length ends
  pub lengths_room : m ≤ length lengths
  pub firsts : (e : ℕ) → e < m → get_or ends (2 * e) 0 < max_vertices
  pub seconds : (e : ℕ) → e < m → get_or ends (2 * e + 1) 0 < max_vertices
  pub short : (e : ℕ) → e < m → get_or lengths e 0 ≤ max_length
  pub long : (e : ℕ) → e < m → 1 ≤ get_or lengths e 0

-- the distance of a vertex that no way has reached
abbrev pub unreached : ℕ
unreached = 4000000000

-- what a step asks: the edges, and a distance for each vertex, none above `unreached`
pub record Bounded (ends lengths : List ℕ) (m : ℕ) (distances : List ℕ) : Type 0 where
  pub searchable : Searchable ends lengths m
  pub room : max_vertices ≤ length distances
  pub top : (v : ℕ) → v < max_vertices → get_or distances v 0 ≤ unreached

-- why vertex v may have its distance: it is the goal, or an edge leads on to a vertex whose distance is less by at least the edge's length
pub data Reason (ends lengths : List ℕ) (m goal : ℕ) (distances : List ℕ) (v : ℕ) : Type 0 where
  is_goal : v ≡ goal → Reason ends lengths m goal distances v
  over : (e u : ℕ) → e < m → Joins (edge_of ends lengths [] e) v u → get_or lengths e 0 + get_or distances u 0 ≤ get_or distances v 0
      → Reason ends lengths m goal distances v

-- what holds of the distances at all times, in whatever order the edges are tried
pub record Grounded (ends lengths : List ℕ) (m goal : ℕ) (distances : List ℕ) : Type 0 where
  pub bounded : Bounded ends lengths m distances
  pub at_goal : get_or distances goal 0 ≡ 0
  pub reason : (v : ℕ) → v < max_vertices → get_or distances v 0 < unreached → Reason ends lengths m goal distances v

-- what trying edges does: whichever vertex is the goal, the distances stay grounded
pub record Keeps (ends lengths : List ℕ) (m : ℕ) (distances distances' : List ℕ) : Type 0 where
  pub bounded : Bounded ends lengths m distances'
  pub grounded : (goal : ℕ) → Grounded ends lengths m goal distances → Grounded ends lengths m goal distances'

-- edge e lowers no distance to one below best
pub record Still (ends lengths distances : List ℕ) (best e : ℕ) : Type 0 where
  pub first : min best (get_or distances (get_or ends (2 * e) 0) 0) ≤ get_or lengths e 0 + get_or distances (get_or ends (2 * e + 1) 0) 0
  pub second : min best (get_or distances (get_or ends (2 * e + 1) 0) 0) ≤ get_or lengths e 0 + get_or distances (get_or ends (2 * e) 0) 0

-- the answer of a step that lowered nothing
abbrev pub no_vertex : ℕ
no_vertex = 65535

-- edge e stands within the tables, its ends are vertices with a distance, and the distance over it fits 32 bits
pub record Within (ends lengths distances : List ℕ) (e : ℕ) : Type 0 where
  pub ends_room : 2 * e + 1 < length ends
  pub lengths_room : e < length lengths
  pub first_room : get_or ends (2 * e) 0 < length distances
  pub second_room : get_or ends (2 * e + 1) 0 < length distances
  pub first_distance : get_or distances (get_or ends (2 * e) 0) 0 ≤ unreached
  pub short : get_or lengths e 0 ≤ max_length

-- What trying edge e does: nothing, and it lowers nothing below best; or vertex r gets a lesser distance from the other end.
pub data Relaxed (ends lengths distances distances' : List ℕ) (best e r : ℕ) : Type 0 where
  rests : r ≡ no_vertex → distances' ≡ distances → Still ends lengths distances best e → Relaxed ends lengths distances distances' best e r
  lowers : (u : ℕ) → Joins (edge_of ends lengths [] e) r u → get_or lengths e 0 + get_or distances u 0 < get_or distances r 0
      → distances' ≡ set distances r (get_or lengths e 0 + get_or distances u 0) → Relaxed ends lengths distances distances' best e r

-- the number of changes after a step whose answer was r
pub record Counted (changes r count : ℕ) : Type 0 where
  pub rested : r ≡ no_vertex → count ≡ changes
  pub lowered : (r ≡ no_vertex → ⊥) → count ≡ changes + 1

-- What a round over all edges does: with no change nothing can be lowered; each change makes the sum of the distances less.
pub record Round (ends lengths : List ℕ) (m : ℕ) (distances distances' : List ℕ) (best changes : ℕ) : Type 0 where
  pub keeps : Keeps ends lengths m distances distances'
  pub falls : sum distances' + changes ≤ sum distances
  pub same : changes ≡ 0 → distances' ≡ distances
  pub still : changes ≡ 0 → (e : ℕ) → e < m → Still ends lengths distances best e

-- what rounds do until nothing changes: no edge lowers a distance below that of vertex from
pub record Settled (ends lengths : List ℕ) (m from : ℕ) (distances distances' : List ℕ) : Type 0 where
  pub keeps : Keeps ends lengths m distances distances'
  pub still : (e : ℕ) → e < m → Still ends lengths distances' (get_or distances' from 0) e
