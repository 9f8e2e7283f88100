use Rattle.std.proofs.lemmas.Result.{err_from_is_err_and}
use Rattle.asking.proofs.ScratchLaws.{find_answered}
use Rattle.admission.proofs.GateLaws.{query_refused}
use Rattle.questions.proofs.AnswerLaws.{find_answers}
use Rattle.model.specs.Calls.{finding, lent_to}
use Rattle.nursery.specs.Calls.{finds, own_slice}
use Rattle.admission.specs.Own.{register_for}
use mathlib.Core.Path.{refl}
use Rattle.asking.proofs.find.find.Goals as goal

pub returns-clause-answers : goal.returns-clause-answers
returns-clause-answers c =
    λ limit removals. find_answered _ _ _ _ c.in_ok-pass_gate.ensures.gates.0 c.pass_gate.ensures.gates.1 limit removals (finding _) _ _
    (find_answers _ _ _ _ (c.find_cleared.ensures.found _)) c.find_cleared.ensures.cleared

pub returns-in_err-pass_gate-clause-answers : goal.returns-in_err-pass_gate-clause-answers
unfolding register_for own_slice lent_to
returns-in_err-pass_gate-clause-answers c =
    let p = err_from_is_err_and c.from_residual.result c.from_residual.ensures.1 in
    rw (p.1, p.2) (λ limit removals. query_refused limit removals (finds _) _ refl _ _ c.in_err-pass_gate.ensures.gates.0 c.pass_gate.ensures.gates.1)
