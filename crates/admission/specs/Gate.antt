-- The refusal before every call but grow, and what grow clears.
use Rattle.counters.specs.declared.refusals.Refusal.{Refusal}
use Rattle.std.specs.Prelude.{ℕ, Bool, not, if◌then◌else◌, Result, Ok, Err, ⊤}
use Rattle.std.proofs.Math.Option.{Option, none, some}
use Rattle.model.specs.Tables.{Tables, held}
use Rattle.admission.specs.Own.{Lent, all_fit}
use Rattle.counters.specs.Refusals.{number_of}
use Rattle.tables.specs.Steps.{zeroed}

-- 25, then 21
unfoldable pub barred : Lent → Option ℕ
barred l = if not (all_fit l) then some 25 else elim (held l.stored) [ some r ↦ none | none ↦ some 21 ]

abbrev pub gate_refusal : Result ⊤ Refusal → Option ℕ
gate_refusal (Ok _) = none
gate_refusal (Err x) = some (number_of x)

-- "25 writes nothing"; else grow clears first
abbrev pub zeroed_if : Bool → Tables → Tables
zeroed_if fit t = if fit then zeroed t else t
