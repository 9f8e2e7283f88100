use Rattle.pnl.proofs.Returns.{handed}
use Rattle.model.specs.FromC.{returns_reply}
use Rattle.model.specs.Register.{empty}
use mathlib.Core.Path.{ap, ◌∙◌}
use Rattle.survey.proofs.recorded.answer_survey.Goals as goal

pub returns-in-Sheet : goal.returns-in-Sheet
returns-in-Sheet c =
    rw c.in-Sheet.is (handed c.answer_sheet.type_inv c.answer_sheet.ensures)

pub returns-in-Distance : goal.returns-in-Distance
returns-in-Distance c =
    rw c.in-Distance.is (handed c.answer_distance.type_inv (c.answer_distance.ensures empty) ∙ ap (returns_reply empty _) (c.measure_checked-measured.ensures _ _ _ _))
