use Rattle.valve.proofs.LoopLaws.{sum_end, within_end, within_not, within_on, sum_on, held_past, held_too_much, held_sum}
use Rattle.valve.specs.Window.{records_of}
use Rattle.valve.specs.Numbers.{slots}
use Prim.Native.Nat.{◌+◌, ◌-◌}
use native.Mathlib.Nat.{zero-add}
use native.Mathlib.Omega.{arith}
use mathlib.Core.Path.{refl, sym, ◌∙◌}
use Rattle.valve.proofs.window.is_held.Goals as goal

pub returns-then-head-gt-MAX : goal.returns-then-head-gt-MAX
returns-then-head-gt-MAX c = held_past _ (omega arith)

pub loop-init : goal.loop-init
unfolding records_of
loop-init c = (omega arith, (refl, zero-add _))

pub returns-then-amount-gt-MAX : goal.returns-then-amount-gt-MAX
returns-then-amount-gt-MAX c =
    held_too_much _ (omega arith)
    (sym c.loop.invariant.1.0 ∙ within_not _ _ (slots - c.loop.counter) (slots - (c.loop.counter + 1)) _ _ _ (omega arith) c.slot_before-slot.ensures c.at-amount.ensures c.if-amount-gt-MAX.true)

pub loop-preserved : goal.loop-preserved
loop-preserved c =
    (omega (arith, c.loop.invariant.0, c.if-amount-gt-MAX.false), (sym (within_on _ _ _ _ _ _ _ (omega arith) c.slot_before-slot.ensures c.at-amount.ensures c.if-amount-gt-MAX.false) ∙ c.loop.invariant.1.0, sum_on _ _ _ _ _ _ _ (omega arith) c.slot_before-slot.ensures c.at-amount.ensures _ _ c.loop.invariant.1.1))

pub returns : goal.returns
returns c =
    held_sum _ _ (omega arith) (sym c.loop.invariant.1.0 ∙ within_end _ _ _ _ (omega arith)) (sum_end _ _ _ _ _ _ (omega arith) c.loop.invariant.1.1)
