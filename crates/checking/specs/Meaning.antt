-- Document 01's values of the enums of this crate.
use Rattle.model.specs.Cases as C
use Rattle.std.specs.Prelude as std
use Rattle.std.specs.Prelude.{ℕ, Some, None, Result, Ok, Err}
use Rattle.std.proofs.Math.Option.{Option, none, some}
use Rattle.counters.specs.Refusals.{number_of}
use Rattle.checking.specs.Checks.{CheckIn, passed, failed}
use Rattle.checking.specs.declared.cases.Class.{Class}
use Rattle.checking.specs.declared.cases.Class.TheVariants.{Isolated, Leaf, Regular, Branch}
use Rattle.checking.specs.declared.cases.Case.{Case}
use Rattle.checking.specs.declared.cases.Case.TheVariants.{New, ExtendFirst, ExtendSecond, Merge, SplitExtendFirst, SplitExtendSecond, SplitFirst, SplitSecond, SplitBoth}
use Rattle.checking.specs.declared.checks.Checked.{Checked}
use Rattle.counters.specs.declared.numbers.Millilitres.{Millilitres}
use Rattle.counters.specs.declared.refusals.Refusal.{Refusal}

abbrev pub as_class : Class → C.Class
as_class Isolated = C.isolated
as_class Leaf = C.leaf
as_class Regular = C.regular
as_class Branch = C.branch

abbrev pub as_case : Case → C.Case
as_case New = C.new_chain
as_case ExtendFirst = C.extends C.first_named
as_case ExtendSecond = C.extends C.second_named
as_case Merge = C.merges
as_case SplitExtendFirst = C.split_extends C.first_named
as_case SplitExtendSecond = C.split_extends C.second_named
as_case SplitFirst = C.split_new C.first_named
as_case SplitSecond = C.split_new C.second_named
as_case SplitBoth = C.split_both

abbrev pub as_checked : Result Checked Refusal → CheckIn
as_checked (Ok e) = passed e.first.0 e.second.0 e.length.0 e.volume.0
as_checked (Err x) = failed (number_of x)

abbrev pub as_volume : std.Option Millilitres → Option ℕ
as_volume (Some v) = some v.0
as_volume None = none
