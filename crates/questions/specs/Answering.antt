-- The sheet and the list written to a slice, as functions that mirror the code.
use Rattle.std.specs.Prelude.{ℕ, ◌*◌, List, length, ltb, if◌then◌else◌}
use Rattle.model.specs.Basics.{row_size}
use Rattle.model.specs.Queries.{Reply, concat, listed, refuses, wrote}
use Rattle.model.specs.Tables.{Tables, Counts}
use Rattle.model.specs.Calls.{Answer, fills}
use Rattle.chains.specs.Chains.{names_in, sheet_in}
use Rattle.list.specs.Writing.{list_in}
use Rattle.text.specs.Pages.{page, write}

-- a slice, and the answer
abbrev pub answered : List ℕ → Reply → Answer
answered xs a = record { slice = xs; reply = a }

-- 9 where the slice is too short for six numbers a chain. Marks are lent for counting the chains, and others for their rows.
unfoldable pub sheeted_in : Tables → Counts → List ℕ → List ℕ → List ℕ → Answer
sheeted_in t c counting marks xs =
    let counted = length (names_in t.degrees t.sides t.ends c.edges counting) in
    let rows = sheet_in t.degrees t.sides t.ends t.lengths t.volumes c.edges marks in
    if ltb (length xs) (row_size * counted) then answered xs (refuses 9)
    else answered (write (concat rows) (page xs 0)).slice (listed (length rows))

-- 9 where the slice is too short for the list
unfoldable pub written_in : List ℕ → List ℕ → List ℕ → Counts → List ℕ → Answer
written_in ends lengths volumes c xs = let bs = list_in ends lengths volumes c in fills xs bs (wrote (length bs))
