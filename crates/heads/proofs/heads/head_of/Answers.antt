use Rattle.heads.proofs.HeadLaws.{head_at_lem}
use Rattle.heads.proofs.heads.head_of.Goals as goal

pub returns : goal.returns
returns c = head_at_lem _ _ c.requires
