-- What a call does on the tables of one house.
use mathlib.Core.Path.{◌≡◌, refl}
use Prim.Native.Nat.{ℕ}
use mathlib.Core.Bool.{true, false}
use mathlib.Core.Option.{some}
use Rattle.model.specs.Register.{Register, empty}
use Rattle.model.specs.Queries.{refuses}
use Rattle.model.specs.Tables.{cleared, held, stored_of}
use Rattle.nursery.specs.Calls.{HouseCall, asks, commits, effect, grows, lands, removes, own_slice}
use Rattle.admission.specs.Own.{Lent, Outcome, all_fit, gate, house_of, own_step, register_for, scratch_after}

-- what a call on a house leaves and answers
unfoldable pub outcome_of : ℕ → ℕ → HouseCall → Register → Outcome
outcome_of limit removals c r =
    let e = effect c (house_of limit removals r) in
    record { lent = record { stored = stored_of e.leaves; scratch = cleared }; slice = e.slice; reply = e.reply }

-- where the tables fit, scratch ends all zero
pub scratch_cleared : (l : Lent) → all_fit l ≡ true → scratch_after l ≡ cleared
unfolding scratch_after
scratch_cleared l a = rw a

module _ (limit removals : ℕ) where
  -- a call that is let in does on what is stored what it does on the register
  pub step_admits : (c : HouseCall) (l : Lent) (r : Register) → all_fit l ≡ true → register_for c l ≡ some r → own_step limit removals c l ≡ outcome_of limit removals c r
  unfolding own_step gate scratch_after outcome_of
  step_admits c l r a h = rw (a, own_step, gate, h) (rw a)

  -- the same where tables that fit hold a register
  pub step_fits : (c : HouseCall) (l : Lent) (r : Register) → all_fit l ≡ true → held l.stored ≡ some r → own_step limit removals c l ≡ outcome_of limit removals c r
  unfolding register_for outcome_of effect
  step_fits (grows bs) l r a h = step_admits (grows bs) l empty a refl
  step_fits (lands bs) l r a h = step_admits (lands bs) l r a h
  step_fits (commits q) l r a h = step_admits (commits q) l r a h
  step_fits (removes d slice) l r a h = step_admits (removes d slice) l r a h
  step_fits (asks q) l r a h = step_admits (asks q) l r a h

  -- where they do not fit: 25, and nothing is written
  pub step_refused : (c : HouseCall) (l : Lent) → all_fit l ≡ false → own_step limit removals c l ≡ record { lent = l; slice = own_slice c; reply = refuses 25 }
  unfolding own_step gate scratch_after
  step_refused c l a = rw (a, own_step, gate) (rw a)
