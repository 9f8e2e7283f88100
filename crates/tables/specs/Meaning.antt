-- What lent slices stand for.
use Rattle.std.specs.Prelude.{ℕ, List}
use Rattle.model.specs.Tables.{Tables, Counts, Stored}

-- the six tables as one record
abbrev pub tables : List ℕ → List ℕ → List ℕ → List ℕ → List ℕ → List ℕ → Tables
tables degrees sides ends lengths volumes labels =
    record { degrees = degrees; sides = sides; ends = ends; lengths = lengths; volumes = volumes; labels = labels }

-- tables and counts as one record
abbrev pub stored : Tables → Counts → Stored
stored t c = record { tables = t; counts = c }
