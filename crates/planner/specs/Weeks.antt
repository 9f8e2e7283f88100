-- The windows of one week, taken in order: functions that mirror the code. That they give the first minute is a theorem.
use Rattle.std.specs.Prelude as rust
use Rattle.std.specs.Prelude.{ℕ, ◌+◌, max, true, false, List, [], ◌∷◌, leb}
use Rattle.std.proofs.Math.Option.{Option, none, some}
use Rattle.planner.specs.Windows.{Window}

abbrev pub as_found : rust.Option ℕ → Option ℕ
as_found (rust.Some m) = some m
as_found rust.None = none

-- the later of `from` and the start of the first window that has so many minutes left from there
unfoldable pub first_in : ℕ → ℕ → List Window → Option ℕ
first_in minutes from [] = none
first_in minutes from (w ∷ ws) =
    elim (leb (max w.start from + minutes) w.end) [ true ↦ some (max w.start from) | false ↦ first_in minutes from ws ]

abbrev pub shifted : ℕ → Option ℕ → Option ℕ
shifted weekStart (some m) = some (weekStart + m)
shifted weekStart none = none

-- the same in the week that begins at minute `weekStart`
unfoldable pub first_from : ℕ → ℕ → ℕ → List Window → Option ℕ
first_from weekStart minutes from ws = shifted weekStart (first_in minutes from ws)
