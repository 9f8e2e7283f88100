-- What a distance stands for.
use Rattle.counters.specs.declared.numbers.Millimetres.{Millimetres}
use Rattle.std.specs.Prelude.{Option, Some, None}
use Rattle.model.specs.Distance as model

-- a distance as the code answers it
abbrev pub as_distance : Option Millimetres → model.Distance
as_distance (Some d) = model.joined d.0
as_distance None = model.not_joined
