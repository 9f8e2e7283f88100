-- The limits of document 02, S-8, and what the checked constructors answer.
use Rattle.std.specs.Prelude as rust
use Rattle.std.specs.Prelude.{ℕ}
use Rattle.std.proofs.Math.Option.{Option, none, some}
use Rattle.planner.specs.declared.numbers.Volume.{Volume}
use Rattle.planner.specs.declared.numbers.Flow.{Flow}
use Rattle.planner.specs.declared.numbers.Minute.{Minute}
use Rattle.planner.specs.declared.numbers.Beginning.{Beginning}

-- "in minutes of the week 0 to 10,079"
abbrev pub week : ℕ
week = 10080

-- "a flow of 1 to 1,000,000 ml a minute"
abbrev pub max_flow : ℕ
max_flow = 1000000

-- "up to 32 weekly windows"
abbrev pub max_windows : ℕ
max_windows = 32

-- the largest volume of a run: 4,096 pipes of 1,000,000 ml (S-4)
abbrev pub max_volume : ℕ
max_volume = 4096000000

abbrev pub as_volume : rust.Option Volume → Option ℕ
as_volume (rust.Some v) = some v.0
as_volume rust.None = none

abbrev pub as_flow : rust.Option Flow → Option ℕ
as_flow (rust.Some f) = some f.0
as_flow rust.None = none

abbrev pub as_minute : rust.Option Minute → Option ℕ
as_minute (rust.Some m) = some m.0
as_minute rust.None = none

abbrev pub as_beginning : rust.Option Beginning → Option ℕ
as_beginning (rust.Some m) = some m.0
as_beginning rust.None = none
