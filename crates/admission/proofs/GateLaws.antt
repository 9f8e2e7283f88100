-- The ways out of the gate: from the test of sizes and the replay to the refusal before a call and the scratch that is left; and what the
-- gate tells of the call.
use mathlib.Core.Path.{◌≡◌, refl, sym, ap, ◌∙◌, subst}
use Prim.Native.Nat.{ℕ}
use mathlib.Core.Bool.{Bool, true, false, ◌&&◌}
use mathlib.Core.List.{List}
use mathlib.Core.Option.{Option, none, some, some-injective, some-ne-none}
use Rattle.model.specs.Register.{Register}
use Rattle.model.specs.Queries.{Reply, refuses}
use Rattle.model.specs.Tables.{Tables, Counts, fits, cleared, held}
use Rattle.model.specs.Calls.{Ask, answer}
use Rattle.nursery.specs.Calls.{HouseCall, asks, effect, own_slice}
use Rattle.admission.specs.Own.{Lent, all_fit, bars, gate, house_of, own_step, register_for, scratch_after}
use Rattle.model.proofs.Basics.Booleans.{not_both}
use Rattle.model.specs.Notions.{HeldOf}
use Rattle.theory.proofs.Registers.OnlyHeld.{only_held}
use Rattle.admission.proofs.OwnLaws.{outcome_of, scratch_cleared, step_fits}
use Rattle.tables.specs.Meaning.{stored}
use Rattle.tables.specs.Steps.{zeroed}
use Rattle.admission.specs.Lent.{lent, outcome}
use Rattle.holding.specs.Replay.{Regrows}
use Rattle.holding.proofs.HeldLaws.{replay_held, replay_none}
use Rattle.admission.specs.Gate.{barred}
use Rattle.admission.proofs.SizeLaws.{zeroed_cleared}

module _ (t : Tables) (c : Counts) (s : Tables) where
  sizes_refused : (fits t && fits s) ≡ false → (some 25 ≡ barred (lent t c s)) × (s ≡ scratch_after (lent t c s))
  unfolding barred scratch_after all_fit
  sizes_refused h = (rw (h, barred), rw h)

  -- tables of wrong sizes: 25, and scratch is left
  pub gate_tables : fits t ≡ false → (some 25 ≡ barred (lent t c s)) × (s ≡ scratch_after (lent t c s))
  gate_tables h = sizes_refused (rw h)

  -- scratch of wrong sizes: the same
  pub gate_scratch : fits t ≡ true → fits s ≡ false → (some 25 ≡ barred (lent t c s)) × (s ≡ scratch_after (lent t c s))
  gate_scratch h k = sizes_refused (rw (h, k))

  module _ (h : fits t ≡ true) (k : fits s ≡ true) where
    -- zeros of the scratch's sizes
    zeros_are : zeroed s ≡ cleared
    zeros_are = zeroed_cleared s k

    scratch_is : (s' : Tables) → s' ≡ zeroed s → s' ≡ scratch_after (lent t c s)
    unfolding scratch_after all_fit
    scratch_is s' e = rw (h, k) (e ∙ zeros_are)

    -- the replay in cleared scratch is the one that decides refusal 21
    regrows_cleared : (r : Bool) → Regrows r t c (zeroed s) → Regrows r t c cleared
    regrows_cleared r g = subst (λ (u : Tables). Regrows r t c u) zeros_are g

    held_none : held (stored t c) ≡ none → some 21 ≡ barred (lent t c s)
    unfolding barred all_fit
    held_none n = rw (h, k, barred) (rw n)

    held_some : (r : Register) → held (stored t c) ≡ some r → none ≡ barred (lent t c s)
    unfolding barred all_fit
    held_some r e = rw (h, k, barred) (rw e)

    -- tables that their own edges do not leave: 21, and scratch is all zero
    pub gate_not_grown : (s' : Tables) (r : Bool) → s' ≡ zeroed s → Regrows r t c (zeroed s) → r ≡ false
        → (some 21 ≡ barred (lent t c s)) × (s' ≡ scratch_after (lent t c s))
    gate_not_grown s' r b g e =
        let k = regrows_cleared r g in
        (held_none (replay_none t c (λ q. not_both r (k.true_if q) e)), scratch_is s' b)

    -- any other call is let in, and scratch is all zero
    pub gate_open : (s' : Tables) (r : Bool) → s' ≡ zeroed s → Regrows r t c (zeroed s) → r ≡ true
        → (none ≡ barred (lent t c s)) × (s' ≡ scratch_after (lent t c s))
    gate_open s' r b g e =
        let o = replay_held t c ((regrows_cleared r g).if_true e) in
        (held_some o.0 o.1, scratch_is s' b)

-- of every call but grow
pub gate_bars : (c : HouseCall) (l : Lent) → register_for c l ≡ held l.stored → (x : ℕ) → some x ≡ barred l → gate c l ≡ bars x
unfolding barred gate
gate_bars c l q x h = go (all_fit l) refl (held l.stored) refl
  where
    go : (b : Bool) → all_fit l ≡ b → (o : Option Register) → held l.stored ≡ o → gate c l ≡ bars x
    go false e o f = rw (e, gate) (ap bars (sym (some-injective x 25 (rw (e, barred) at h))))
    go true e none f = rw (e, gate, q, f) (ap bars (sym (some-injective x 21 (rw (e, barred, f) at h))))
    go true e (some r) f = absurd (some-ne-none x (rw (e, barred, f) at h))

-- .. so it is refused before its work, and leaves register and slice
pub query_refused : (limit removals : ℕ) (c : HouseCall) (l : Lent) → register_for c l ≡ held l.stored → (s : Tables) (x : ℕ) → some x ≡ barred l → s ≡ scratch_after l
    → outcome l.stored.tables l.stored.counts s (own_slice c) (refuses x) ≡ own_step limit removals c l
unfolding own_step
query_refused limit removals c l q s x h e = rw (gate_bars c l q x h, own_step, e)

-- an open gate: the sizes are right, and the tables hold a register
pub record Open (l : Lent) : Type 0 where
  pub fit : all_fit l ≡ true
  pub register : Register
  pub holds : held l.stored ≡ some register
  pub is : HeldOf l.stored register

-- where nothing bars a call, its gate is open
pub opened : (l : Lent) → none ≡ barred l → Open l
unfolding barred
opened l h = go (all_fit l) refl (held l.stored) refl
  where
    go : (b : Bool) → all_fit l ≡ b → (o : Option Register) → held l.stored ≡ o → Open l
    go false e o f = absurd (some-ne-none 25 (sym (rw (e, barred) at h)))
    go true e none f = absurd (some-ne-none 21 (sym (rw (e, barred, f) at h)))
    go true e (some r) f = record { fit = e; register = r; holds = f; is = only_held l.stored r f }

-- behind an open gate the scratch is all zero
pub open_cleared : (l : Lent) (s : Tables) → none ≡ barred l → s ≡ scratch_after l → s ≡ cleared
open_cleared l s h e = e ∙ scratch_cleared l (opened l h).fit

-- behind an open gate a question leaves the register and is answered: what it has to give is the answer of the house that is held
pub query_answered : (limit removals : ℕ) (q : Ask) (l : Lent) (s : Tables) (xs : List ℕ) (a : Reply) → none ≡ barred l → s ≡ scratch_after l
    → ((r : Register) → HeldOf l.stored r → answer q (house_of limit removals r) ≡ record { slice = xs; reply = a })
    → outcome l.stored.tables l.stored.counts s xs a ≡ own_step limit removals (asks q) l
unfolding outcome_of effect
query_answered limit removals q l s xs a h e f =
    let o = opened l h in
    rw (step_fits limit removals (asks q) l o.register o.fit o.holds, outcome_of, f o.register o.is, ← o.is.stored_is, e, scratch_cleared l o.fit)
