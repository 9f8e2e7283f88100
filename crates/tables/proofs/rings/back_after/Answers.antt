use Rattle.tables.specs.Rounds.{back_in}
use Rattle.tables.proofs.rings.back_after.Goals as goal

pub returns-then-met : goal.returns-then-met
unfolding back_in
returns-then-met c = rw c.if-met.true

pub returns : goal.returns
unfolding back_in
returns c = rw c.if-met.false
