use Rattle.valve.proofs.Ring.{after_inside, after_last}
use mathlib.Core.Path.{sym}
use Rattle.valve.proofs.slots.slot_after.Goals as goal

pub returns-then-slot-lt-MAX : goal.returns-then-slot-lt-MAX
returns-then-slot-lt-MAX c = sym (after_inside _ c.if-slot-lt-MAX.true)

pub returns-else-slot-lt-MAX : goal.returns-else-slot-lt-MAX
returns-else-slot-lt-MAX c = sym (after_last _ c.if-slot-lt-MAX.false)
