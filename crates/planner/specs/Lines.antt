-- The volume of a line of the sheet, read from the lent slice.
use Rattle.std.specs.Prelude.{ℕ, ◌+◌, ◌*◌, List, get_or}

-- the numbers of a sheet's line, and the place of its volume among them (S-4)
abbrev pub line_size : ℕ
line_size = 6

abbrev pub volume_place : ℕ
volume_place = 5

-- lines count from 0; past the end of the slice 0, which is unknown
unfoldable pub line_volume : List ℕ → ℕ → ℕ
line_volume numbers line = get_or numbers (line_size * line + volume_place) 0
