use Rattle.std.proofs.lemmas.Result.{err_from_is_err_and}
use mathlib.Core.Path.{refl}
use Rattle.model.specs.Calls.{quoting, lent_to}
use Rattle.nursery.specs.Calls.{quotes, own_slice}
use Rattle.admission.specs.Own.{register_for}
use Rattle.admission.proofs.GateLaws.{query_refused}
use Rattle.asking.proofs.QuoteLaws.{quote_answers}
use Rattle.admission.proofs.GateLaws.{query_answered}
use Rattle.asking.proofs.quote.quote.Goals as goal

pub returns-clause-answers : goal.returns-clause-answers
returns-clause-answers c =
    λ removals. query_answered _ removals (quoting _) _ _ _ _ c.in_ok-pass_gate.ensures.gates.0 c.pass_gate.ensures.gates.1 (quote_answers _ removals _ _ _ _ c.quote_edge.ensures)

pub returns-in_err-pass_gate-clause-answers : goal.returns-in_err-pass_gate-clause-answers
unfolding register_for own_slice lent_to
returns-in_err-pass_gate-clause-answers c =
    let p = err_from_is_err_and c.from_residual.result c.from_residual.ensures.1 in
    rw (p.1, p.2) (λ removals. query_refused _ removals (quotes _) _ refl _ _ c.in_err-pass_gate.ensures.gates.0 c.pass_gate.ensures.gates.1)
