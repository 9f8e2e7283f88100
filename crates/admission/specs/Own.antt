-- What is done on the tables of one house alone, which are its part of those of all eight: 25 and 21 of this house, then the effect of the call.
-- What stands before it, of the other houses and of the licence, is in `licence`; the limit and the count of removals come from there.
use Rattle.std.specs.Prelude.{ℕ, Bool, not, ◌&&◌, List, if◌then◌else◌}
use Rattle.std.proofs.Math.Option.{Option, none, some}
use Rattle.model.specs.Register.{Register, empty}
use Rattle.model.specs.Queries.{Reply, refuses}
use Rattle.model.specs.Tables.{Tables, Stored, cleared, fits, held, stored_of}
use Rattle.model.specs.Calls.{House}
use Rattle.nursery.specs.Calls.{HouseCall, asks, commits, effect, grows, lands, removes, own_slice}

-- what is lent of one house, and the scratch
pub record Lent : Type 0 where
  pub stored : Stored
  pub scratch : Tables

-- what a call leaves there and in its slice, and what it answers
pub record Outcome : Type 0 where
  pub lent : Lent
  pub slice : List ℕ
  pub reply : Reply

-- the register that a call finds in its own house: a grow clears it first
unfoldable pub register_for : HouseCall → Lent → Option Register
register_for (grows bs) l = some empty
register_for (lands bs) l = held l.stored
register_for (commits q) l = held l.stored
register_for (removes d slice) l = held l.stored
register_for (asks q) l = held l.stored

-- 25 holds of none of the tables, those of the scratch included
unfoldable pub all_fit : Lent → Bool
all_fit l = fits l.stored.tables && fits l.scratch

-- 25, then 21
pub data Gate : Type 0 where
  admits : Register → Gate
  bars : ℕ → Gate

unfoldable pub gate : HouseCall → Lent → Gate
gate c l =
    if not (all_fit l) then bars 25
    else elim (register_for c l) [ some r ↦ admits r | none ↦ bars 21 ]

-- "25 writes nothing. Otherwise scratch ends all zero."
unfoldable pub scratch_after : Lent → Tables
scratch_after l = if all_fit l then cleared else l.scratch

-- a register as a house that has this limit and this count of removals
abbrev pub house_of : ℕ → ℕ → Register → House
house_of limit removals r = record { register = r; limit = limit; removals = removals }

-- a call over what it is lent: its effect; or 25 or 21, with register and slice as they were
unfoldable pub own_step : ℕ → ℕ → HouseCall → Lent → Outcome
own_step limit removals c l =
    elim (gate c l) [
      | admits r ↦
          let e = effect c (house_of limit removals r) in
          record {
            lent = record { stored = stored_of e.leaves; scratch = scratch_after l };
            slice = e.slice;
            reply = e.reply;
          }
      | bars n ↦
          record {
            lent = record { stored = l.stored; scratch = scratch_after l };
            slice = own_slice c;
            reply = refuses n;
          }
    ]
