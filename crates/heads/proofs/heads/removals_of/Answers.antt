use Rattle.heads.proofs.HeadLaws.{removals_at_lem}
use Rattle.heads.proofs.heads.removals_of.Goals as goal

pub returns : goal.returns
returns c = removals_at_lem _ _ c.requires
