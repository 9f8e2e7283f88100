use Rattle.std.proofs.lemmas.Result.{err_from_is_err_and}
use Rattle.opening.proofs.SheetLaws.{fetch_answered, fetch_ended}
use Rattle.admission.proofs.GateLaws.{query_refused}
use Rattle.admission.specs.Own.{register_for}
use Rattle.nursery.specs.Calls.{fetches, own_slice}
use Rattle.model.specs.Calls.{lent_to}
use mathlib.Core.Path.{refl, ◌∙◌}
use Rattle.opening.proofs.sheets.OpenSheet.fetch.Goals as goal

pub returns-then-self-removals-clause-answers : goal.returns-then-self-removals-clause-answers
returns-then-self-removals-clause-answers c =
    λ limit. fetch_ended _ _ _ _ c.in_ok-pass_gate.ensures.gates.0 c.pass_gate.ensures.gates.1 limit _ _ c.if-self-removals.true

pub returns-clause-answers : goal.returns-clause-answers
returns-clause-answers c =
    λ limit. fetch_answered _ _ _ _ c.in_ok-pass_gate.ensures.gates.0 c.pass_gate.ensures.gates.1 limit _ _ _ _ c.if-self-removals.false (c.gives.ensures ∙ c.line_cleared-line.ensures.fetches _) c.line_cleared-line.ensures.cleared

pub returns-in_err-pass_gate-clause-answers : goal.returns-in_err-pass_gate-clause-answers
unfolding register_for own_slice lent_to
returns-in_err-pass_gate-clause-answers c =
    let p = err_from_is_err_and c.from_residual.result c.from_residual.ensures.1 in
    rw (p.1, p.2) (λ limit. query_refused limit _ (fetches _) _ refl _ _ c.in_err-pass_gate.ensures.gates.0 c.pass_gate.ensures.gates.1)
