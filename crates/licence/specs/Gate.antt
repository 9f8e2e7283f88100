-- What stands before a call for a house, but for 21 of that house, which the call looks at itself.
use Rattle.counters.specs.declared.refusals.Refusal.{Refusal}
use Rattle.std.specs.Prelude.{ℕ, max, Bool, true, false, not, ◌&&◌, List, get_or, ltb, if◌then◌else◌, Result, Ok, Err}
use Rattle.std.proofs.Math.Option.{Option, none, some}
use Rattle.model.specs.Basics.{up_to}
use Rattle.model.specs.Tables.{Tables, cleared, fits}
use Rattle.counters.specs.Refusals.{number_of}
use Rattle.nursery.specs.Licence.{houses, limit_of, overfull}
use Rattle.nursery.specs.Nursery.{edges_in}
use Rattle.nursery.specs.Calls.{Lent, any_damaged, edges_but, nursery_fits}

-- a limit, or a refusal
pub data PassedAs : Type 0 where
  opens_with : ℕ → PassedAs
  bars_with : ℕ → PassedAs

abbrev pub as_passed : Result ℕ Refusal → PassedAs
as_passed (Ok limit) = opens_with limit
as_passed (Err x) = bars_with (number_of x)

-- the house that a grow counts as empty
unfoldable pub emptied : ℕ → Bool → Option ℕ
emptied house true = some house
emptied house false = none

-- what the house itself keeps of the licence
unfoldable pub own_reserve : ℕ → Bool → List ℕ → List ℕ → ℕ
own_reserve house grows shares edges =
    if not (ltb house houses) then 0
    else if grows then max (get_or shares house 0) 0
    else max (get_or shares house 0) (get_or edges house 0)

-- 21 of the sum; 37; or the limit
unfoldable pub licence_in : ℕ → Bool → List ℕ → List ℕ → PassedAs
licence_in house grows shares edges =
    if overfull shares (edges_but (emptied house grows) edges) then bars_with 21
    else if not (ltb house houses) then bars_with 37
    else opens_with (limit_of house shares edges)

-- 25; 21 of the other houses
unfoldable pub pass_others : ℕ → Bool → Lent → PassedAs
pass_others house grows l =
    if not (nursery_fits l.nursery && fits l.scratch) then bars_with 25
    else if any_damaged (some house) l.nursery (up_to houses) then bars_with 21
    else licence_in house grows l.nursery.shares (edges_in l.nursery)

-- "25 writes nothing. Otherwise scratch ends all zero."
unfoldable pub scratch_passed : Lent → Tables
scratch_passed l = if nursery_fits l.nursery && fits l.scratch then cleared else l.scratch
