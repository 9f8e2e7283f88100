-- The call over the tables of a register, as a function that mirrors the code, and what it asks of them.
use Rattle.std.specs.Prelude.{ℕ, ◌≤◌, not, ◌&&◌, List, ltb, if◌then◌else◌}
use Rattle.model.specs.Basics.{max_vertices}
use Rattle.model.specs.Distance.{distance}
use Rattle.model.specs.Queries.{Reply, measured, refuses}
use Rattle.model.specs.Tables.{Tables, Counts, stored_edges}
use Rattle.relaxing.specs.Distances.{Searchable}

-- 5, or the distance over the tables' own edges
unfoldable pub measure_in : Tables → Counts → ℕ → ℕ → Reply
measure_in t c v w =
    if not (ltb v c.vertices && ltb w c.vertices) then refuses 5
    else measured (distance (stored_edges t c.edges) v w)

-- the tables of ends and lengths can be searched
abbrev pub Measurable : List ℕ → List ℕ → Counts → Type 0
Measurable ends lengths c = Searchable ends lengths c.edges × (c.vertices ≤ max_vertices)
