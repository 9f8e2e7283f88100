use Rattle.std.proofs.lemmas.Result.{err_from_is_err_and}
use mathlib.Core.Path.{refl}
use Rattle.model.specs.Calls.{lent_to}
use Rattle.nursery.specs.Calls.{sheets, own_slice}
use Rattle.admission.specs.Own.{register_for}
use Rattle.asking.proofs.ScratchLaws.{sheet_answered}
use Rattle.admission.proofs.GateLaws.{query_refused}
use Rattle.asking.proofs.sheet.sheet.Goals as goal

pub returns-clause-answers : goal.returns-clause-answers
returns-clause-answers c =
    λ limit removals. sheet_answered _ _ _ _ c.in_ok-pass_gate.ensures.gates.0 c.pass_gate.ensures.gates.1 limit removals _ _ _ _ _ (c.sheet_cleared.ensures.sheeted _) c.sheet_cleared.ensures.cleared.0 c.sheet_cleared.ensures.cleared.1

pub returns-in_err-pass_gate-clause-answers : goal.returns-in_err-pass_gate-clause-answers
unfolding register_for own_slice lent_to
returns-in_err-pass_gate-clause-answers c =
    let p = err_from_is_err_and c.from_residual.result c.from_residual.ensures.1 in
    rw (p.1, p.2) (λ limit removals. query_refused limit removals (sheets _) _ refl _ _ c.in_err-pass_gate.ensures.gates.0 c.pass_gate.ensures.gates.1)
