-- The list of a register, as functions that mirror the code. Of the tables they read the ends, the lengths and the volumes alone.
use Rattle.std.specs.Prelude.{ℕ, List, [], map, ◌++◌, replicate}
use Rattle.model.specs.Basics.{up_to}
use Rattle.model.specs.Format.{edge_records, header}
use Rattle.model.specs.Tables.{Counts, stored_edge}
use Rattle.tables.specs.Meaning.{tables}

-- the records of edges, by their numbers
unfoldable pub records_in : List ℕ → List ℕ → List ℕ → List ℕ → List ℕ
records_in ends lengths volumes ds = edge_records (map (stored_edge (tables [] [] ends lengths volumes [])) ds)

unfoldable pub list_in : List ℕ → List ℕ → List ℕ → Counts → List ℕ
list_in ends lengths volumes c = header ++ (replicate c.vertices 0x46 ++ records_in ends lengths volumes (up_to c.edges))
