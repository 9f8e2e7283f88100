use Rattle.survey.proofs.SurveyLaws.{recorded_stop, survey_answers, survey_measurable}
use Rattle.pnl.proofs.Returns.{value_kept, handed}
use Rattle.pnl.proofs.CallLaws.{call_stops, call_answers}
use Rattle.counters.specs.Answers.{as_stop}
use Rattle.model.specs.Tables.{cleared}
use mathlib.Core.Path.{ap, ◌∙◌}
use Rattle.survey.proofs.recorded.answer_recorded.Goals as goal

pub answer_survey-requires : goal.answer_survey-requires
unfolding cleared
answer_survey-requires c =
    survey_measurable _ _ _ _ c.record_list-reading.ensures

pub returns-in-Whole : goal.returns-in-Whole
unfolding cleared
returns-in-Whole c =
    let g = c.record_list-reading.ensures in
    call_answers _ _ (recorded_stop _ _ _ _ g) _ _ _ (ap as_stop c.in-Whole.is) (handed c.answer_survey.type_inv c.answer_survey.ensures ∙ survey_answers _ _ _ _ g c.args.survey _)

pub returns-in-Stopped : goal.returns-in-Stopped
unfolding cleared
returns-in-Stopped c =
    call_stops _ _ (recorded_stop _ _ _ _ c.record_list-reading.ensures) _ _ _ _ _ (ap as_stop c.in-Stopped.is) (value_kept c.refused.type_inv ∙ c.refused.ensures)
