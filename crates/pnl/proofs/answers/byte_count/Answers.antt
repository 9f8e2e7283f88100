use Rattle.pnl.proofs.Returns.{count_is}
use Rattle.pnl.proofs.answers.byte_count.Goals as goal

pub returns : goal.returns
returns c = count_is _ c.requires
