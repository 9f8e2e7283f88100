-- What a removal comes to once the other edges stand landed in scratch, as a function that mirrors the code.
use Rattle.std.specs.Prelude.{ℕ, ◌*◌, List, length, ltb, if◌then◌else◌}
use Rattle.model.specs.Basics.{in_front, max_vertices}
use Rattle.model.specs.Queries.{reported, refuses}
use Rattle.model.specs.Tables.{Tables, Counts}
use Rattle.nursery.specs.Removal.{change_numbers}
use Rattle.tables.specs.Steps.{zeroed}
use Rattle.admission.specs.Own.{Outcome}
use Rattle.admission.specs.Lent.{outcome}
use Rattle.replacing.specs.Changes.{changes_in}

-- they stand in s with the counts c': 9 leaves t and c; else these, with the report in front of the slice
unfoldable pub settled_in : Tables → Counts → Tables → Counts → List ℕ → Outcome
settled_in t c s c' slice =
    let cs = changes_in t.labels s.labels max_vertices 0 in
    if ltb (length slice) (3 * length cs) then outcome t c (zeroed s) slice (refuses 9)
    else outcome s c' (zeroed s) (in_front (change_numbers cs) slice) (reported (length cs))
