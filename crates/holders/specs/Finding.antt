-- Find over the tables. Its code is in questions; agreement, which is below it, needs it here.
use Rattle.std.specs.Prelude.{ℕ, get_or}
use Rattle.std.proofs.Math.Option.{none, some}
use Rattle.model.specs.Queries.{Reply, refuses}
use Rattle.model.specs.Tables.{Tables}
use Rattle.holders.specs.Newest.{search_in}

-- by the search from the newest chain, among n vertices and m edges
unfoldable pub find_in : Tables → ℕ → ℕ → ℕ → Reply
find_in t n m label =
    elim (search_in t.degrees t.sides t.ends t.lengths t.labels n m label).found [
      | some a ↦ a
      | none ↦ refuses 8
    ]

-- through the vertex's label
unfoldable pub find_at_in : Tables → ℕ → ℕ → ℕ → Reply
find_at_in t n m v = find_in t n m (get_or t.labels v 0)
