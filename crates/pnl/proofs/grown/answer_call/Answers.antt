use Rattle.pnl.proofs.Returns.{value_kept, handed}
use Rattle.pnl.proofs.CallLaws.{call_stops, call_answers, grown_register, grown_stop}
use Rattle.counters.specs.Answers.{as_stop}
use Rattle.model.specs.Tables.{cleared}
use mathlib.Core.Path.{ap, ◌∙◌}
use Rattle.pnl.proofs.grown.answer_call.Goals as goal

pub returns-in-Whole : goal.returns-in-Whole
unfolding cleared
returns-in-Whole c =
    let g = c.grow_list-reading.ensures in
    call_answers _ _ (grown_stop _ _ _ _ g) _ _ _ (ap as_stop c.in-Whole.is) (handed c.answer_question.type_inv (c.answer_question.ensures _ _ (grown_register _ _ _ _ g)))

pub returns-in-Stopped : goal.returns-in-Stopped
unfolding cleared
returns-in-Stopped c =
    call_stops _ _ (grown_stop _ _ _ _ c.grow_list-reading.ensures) _ _ _ _ _ (ap as_stop c.in-Stopped.is) (value_kept c.refused.type_inv ∙ c.refused.ensures)
