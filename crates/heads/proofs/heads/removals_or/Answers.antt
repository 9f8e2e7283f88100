use Rattle.heads.proofs.HeadLaws.{removals_other, removals_put}
use Rattle.heads.proofs.heads.removals_or.Goals as goal

pub returns-then-i-h : goal.returns-then-i-h
returns-then-i-h c = removals_put _ _ _ _ c.requires c.if-i-h.true

pub returns-else-i-h : goal.returns-else-i-h
returns-else-i-h c = removals_other _ _ _ _ _ c.if-i-h.false c.removals_of.ensures
