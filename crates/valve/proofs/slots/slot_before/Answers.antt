use Rattle.valve.proofs.Ring.{before_first, before_other}
use mathlib.Core.Path.{sym}
use Rattle.valve.proofs.slots.slot_before.Goals as goal

pub returns-then-slot-eq0 : goal.returns-then-slot-eq0
returns-then-slot-eq0 c = sym (before_first _ c.if-slot-eq0.true)

pub returns-else-slot-eq0 : goal.returns-else-slot-eq0
returns-else-slot-eq0 c = sym (before_other _ c.if-slot-eq0.false)
