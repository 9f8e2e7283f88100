-- What the checked constructors answer: the number, or none where it is out of its bounds.
use Rattle.std.specs.Prelude as std
use Rattle.std.specs.Prelude.{ℕ, Bool, ◌&&◌, eqb, leb, ltb, if◌then◌else◌, Some, None}
use Rattle.std.proofs.Math.Option.{Option, none, some}
use Rattle.model.specs.Basics.{max_vertices, max_volume}
use Rattle.counters.specs.declared.numbers.Vertex.{Vertex}
use Rattle.counters.specs.declared.numbers.Label.{Label}
use Rattle.counters.specs.declared.numbers.Millimetres.{Millimetres}
use Rattle.counters.specs.declared.numbers.CheckedMillilitres.{CheckedMillilitres}
use Rattle.counters.specs.declared.numbers.CheckedMillilitres.TheVariants as millilitres

-- the vertex of a number
abbrev pub vertex_of : ℕ → Vertex
vertex_of n = record { 0 = n }

unfoldable pub within : ℕ → ℕ → ℕ → Option ℕ
within low high n = if leb low n && leb n high then some n else none

-- n is one of so many landed vertices, and within its bound
abbrev pub is_landed : ℕ → ℕ → Bool
is_landed count n = ltb n max_vertices && ltb n count

unfoldable pub among_landed : ℕ → ℕ → Option ℕ
among_landed count n = if is_landed count n then some n else none

abbrev pub as_vertex : std.Option Vertex → Option ℕ
as_vertex (Some v) = some v.0
as_vertex None = none

abbrev pub as_label : std.Option Label → Option ℕ
as_label (Some l) = some l.0
as_label None = none

abbrev pub as_millimetres : std.Option Millimetres → Option ℕ
as_millimetres (Some l) = some l.0
as_millimetres None = none

-- what a number says as a volume
pub data Volume : Type 0 where
  known : ℕ → Volume
  unknown : Volume
  out_of_range : Volume

-- document 02, S-4: "a 32-bit volume of 1 to 1,000,000 ml", "0 means unknown"
unfoldable pub volume_of : ℕ → Volume
volume_of n = if eqb n 0 then unknown else if leb n max_volume then known n else out_of_range

abbrev pub as_millilitres : CheckedMillilitres → Volume
as_millilitres (millilitres.Known v) = known v.0
as_millilitres millilitres.Unknown = unknown
as_millilitres millilitres.OutOfRange = out_of_range
