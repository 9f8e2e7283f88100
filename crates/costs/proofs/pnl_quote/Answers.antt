use mathlib.Core.Path.{ap, ◌∙◌}
use Rattle.model.specs.FromC.{c_quote}
use Rattle.model.specs.Tables.{cleared}
use Rattle.counters.specs.Answers.{as_stop}
use Rattle.costs.proofs.QuoteLaws.{quote_question}
use Rattle.pnl.proofs.Returns.{handed, value_kept}
use Rattle.pnl.proofs.CallLaws.{call_answers, call_stops, grown_register, grown_stop}
use Rattle.costs.proofs.pnl_quote.Goals as goal

pub returns-in-Whole : goal.returns-in-Whole
unfolding cleared c_quote
returns-in-Whole c =
    let g = c.grow_list-reading.ensures in
    call_answers _ _ (grown_stop _ _ _ _ g) _ _ _ (ap as_stop c.in-Whole.is) (quote_question _ _ _ _ _ (c.terms_checked-terms.ensures _ _ _ (grown_register _ _ _ _ g)) (handed c.answer_terms.type_inv c.answer_terms.ensures))

pub returns-in-Stopped : goal.returns-in-Stopped
unfolding cleared c_quote
returns-in-Stopped c =
    call_stops _ _ (grown_stop _ _ _ _ c.grow_list-reading.ensures) _ _ _ _ _ (ap as_stop c.in-Stopped.is) (value_kept c.refused.type_inv ∙ c.refused.ensures)
