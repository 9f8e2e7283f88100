use Rattle.pnl.proofs.Returns.{handed}
use Rattle.model.specs.FromC.{c_distance}
use Rattle.survey.proofs.pnl_distance.Goals as goal

pub returns : goal.returns
unfolding c_distance
returns c = handed c.answer_recorded.type_inv c.answer_recorded.ensures
