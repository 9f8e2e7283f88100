use Rattle.pnl.proofs.Returns.{handed}
use Rattle.model.specs.FromC.{c_find}
use Rattle.pnl.proofs.pnl_find.Goals as goal

pub returns : goal.returns
unfolding c_find
returns c = handed c.answer_call.type_inv c.answer_call.ensures
