use Rattle.parting.proofs.Splits.{both_looked, both_left}
use mathlib.Core.Path.{◌∙◌}
use Rattle.parting.proofs.splitting.rounds_both.Goals as goal

pub returns-then-rings : goal.returns-then-rings
returns-then-rings c = both_looked _ _ _ _ _ _ _ _ _ _ c.if-rings.true c.ring_at-first.ensures c.ring_at.ensures c.left_for-second.ensures

pub returns : goal.returns
returns c = c.none.ensures ∙ both_left _ _ _ _ _ _ _ c.if-rings.false
