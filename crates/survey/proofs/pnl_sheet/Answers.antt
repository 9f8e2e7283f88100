use Rattle.pnl.proofs.Returns.{handed}
use Rattle.model.specs.FromC.{c_sheet}
use Rattle.survey.proofs.pnl_sheet.Goals as goal

pub returns : goal.returns
unfolding c_sheet
returns c = handed c.answer_recorded.type_inv c.answer_recorded.ensures
