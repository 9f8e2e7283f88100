use Rattle.parting.proofs.Splits.{one_looked, one_left}
use mathlib.Core.Path.{◌∙◌}
use Rattle.parting.proofs.splitting.rounds_one.Goals as goal

pub returns-then-rings : goal.returns-then-rings
returns-then-rings c = one_looked _ _ _ _ _ _ _ _ c.if-rings.true c.ring_at-first.ensures

pub returns : goal.returns
returns c = c.none.ensures ∙ one_left _ _ _ _ _ _ _ c.if-rings.false
