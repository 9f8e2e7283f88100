use Rattle.valve.proofs.LoopLaws.{valve_end, valve_here, valve_on}
use borrow.Author.Tests.{ltb-true, ltb-false}
use Rattle.valve.specs.Numbers.{slots}
use Prim.Native.Nat.{◌+◌, ◌-◌}
use native.Mathlib.Omega.{arith}
use mathlib.Core.Path.{sym, ◌∙◌}
use Rattle.valve.proofs.window.recipe_back.Goals as goal

pub returns-then-holds_next : goal.returns-then-holds_next
returns-then-holds_next c =
    valve_here _ _ (slots - c.loop.counter) (slots - (c.loop.counter + 1)) _ _ _ (omega arith) c.slot_before-slot.ensures c.at-amount.ensures _ _ (ltb-true _ _ (sym c.holds_next.ensures ∙ c.if-holds_next.true)) c.at.ensures
    ∙ c.loop.invariant

pub loop-preserved : goal.loop-preserved
loop-preserved c =
    sym (valve_on _ _ _ _ _ _ _ (omega arith) c.slot_before-slot.ensures c.at-amount.ensures _ (ltb-false _ _ (sym c.holds_next.ensures ∙ c.if-holds_next.false)))
    ∙ c.loop.invariant

pub returns : goal.returns
returns c = valve_end _ _ _ _ _ (omega arith) ∙ c.loop.invariant
