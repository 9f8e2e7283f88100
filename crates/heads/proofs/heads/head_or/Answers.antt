use Rattle.heads.proofs.HeadLaws.{head_other, head_put}
use Rattle.heads.proofs.heads.head_or.Goals as goal

pub returns-then-i-h : goal.returns-then-i-h
returns-then-i-h c = head_put _ _ _ _ c.requires c.if-i-h.true

pub returns-else-i-h : goal.returns-else-i-h
returns-else-i-h c = head_other _ _ _ _ _ c.if-i-h.false c.head_of.ensures
