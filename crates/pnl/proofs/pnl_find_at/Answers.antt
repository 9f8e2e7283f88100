use Rattle.pnl.proofs.Returns.{handed}
use Rattle.model.specs.FromC.{c_find_at}
use Rattle.pnl.proofs.pnl_find_at.Goals as goal

pub returns : goal.returns
unfolding c_find_at
returns c = handed c.answer_call.type_inv c.answer_call.ensures
