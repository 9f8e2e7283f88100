-- The refusals of an edge, in their order.
use Rattle.std.specs.Prelude.{ℕ, not, ◌&&◌, ◌||◌, eqb, leb, ltb, if◌then◌else◌}
use Rattle.std.proofs.Math.Option.{Option, none, some}
use Rattle.model.specs.Basics.{max_edges, max_length, max_volume}
use Rattle.model.specs.Graph.{Edge}
use Rattle.model.specs.Tables.{Counts}
use Rattle.counters.specs.Numbers.{Volume, known, unknown, out_of_range, is_landed}

-- "0 means unknown in the register"
abbrev pub stored_volume : Volume → Option ℕ
stored_volume (known v) = some v
stored_volume unknown = some 0
stored_volume out_of_range = none

-- the ends, the length and the volume of an edge that passed, or the first of refusals 5, 6, 7, 31, 23 and 36 that holds of it
pub data CheckIn : Type 0 where
  passed : ℕ → ℕ → ℕ → ℕ → CheckIn
  failed : ℕ → CheckIn

unfoldable pub check_in : Counts → ℕ → Edge → CheckIn
check_in c limit e =
    if not (is_landed c.vertices e.first && is_landed c.vertices e.second) then failed 5
    else if eqb e.first e.second then failed 6
    else if eqb e.len 0 || ltb max_length e.len then failed 7
    else if ltb max_volume e.volume then failed 31
    else if leb max_edges c.edges then failed 23
    else if leb limit c.edges then failed 36
    else passed e.first e.second e.len e.volume
