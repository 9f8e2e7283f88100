-- The printed listing by its parts, and how long each can be.
use Rattle.std.specs.Prelude.{ℕ, ◌+◌, ◌*◌, List, [], ◌∷◌, ◌++◌, length}
use Rattle.model.specs.Basics.{row_size}
use Rattle.model.specs.Format.{Stop}
use Rattle.model.specs.Printing.{line, row_lines, stop_line}
use Rattle.model.specs.Tables.{Counts}

-- the four numbers, the sheet, and the stop
unfoldable pub listing_in : Counts → List (List ℕ) → Stop → List ℕ
listing_in c rows s = line (c.vertices ∷ c.edges ∷ length rows ∷ c.relabellings ∷ []) ++ row_lines rows ++ stop_line s

-- a 32-bit number and the byte behind it
abbrev pub field_bytes : ℕ
field_bytes = 11

abbrev pub head_bytes : ℕ
head_bytes = 4 * field_bytes

abbrev pub row_bytes : ℕ
row_bytes = row_size * field_bytes

-- the word, a 64-bit number and the space behind it, and a refusal's number
abbrev pub stop_bytes : ℕ
stop_bytes = 8 + 21 + field_bytes

-- the program's slice: 4,096 rows, the head and the stop need less
abbrev pub room_bytes : ℕ
room_bytes = 294912
