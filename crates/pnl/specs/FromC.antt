-- How the contracts of the calls from C are put: the answer slice with the value.
use Rattle.std.specs.Prelude.{ℕ, List, ℤ}
use Rattle.model.specs.FromC.{Returned}

-- the answer slice afterwards, and the value
abbrev pub returned : List ℕ → ℤ → Returned
returned slice value = record { slice = slice; value = value }
