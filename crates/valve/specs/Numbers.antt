-- The limits of document 02, S-13, and what the checked constructors answer.
use Rattle.std.specs.Prelude as rust
use Rattle.std.specs.Prelude.{ℕ}
use Rattle.std.proofs.Math.Option.{Option, none, some}
use Rattle.valve.specs.declared.numbers.Recipe.{Recipe}
use Rattle.valve.specs.declared.numbers.Amount.{Amount}
use Rattle.valve.specs.declared.numbers.Minute.{Minute}

-- "a 16-bit recipe number"
abbrev pub max_recipe : ℕ
max_recipe = 65535

-- "the ml passed, 0 to 1,000,000"
abbrev pub max_amount : ℕ
max_amount = 1000000

-- "a moving window of the last 1,440 records": a slot for each, one a minute
abbrev pub slots : ℕ
slots = 1440

abbrev pub as_recipe : rust.Option Recipe → Option ℕ
as_recipe (rust.Some n) = some n.0
as_recipe rust.None = none

abbrev pub as_amount : rust.Option Amount → Option ℕ
as_amount (rust.Some n) = some n.0
as_amount rust.None = none

abbrev pub as_minute : rust.Option Minute → Option ℕ
as_minute (rust.Some n) = some n.0
as_minute rust.None = none
