use Rattle.std.proofs.lemmas.Result.{err_from_is_err_and}
use mathlib.Core.Path.{refl}
use Rattle.model.specs.Calls.{lent_to}
use Rattle.nursery.specs.Calls.{opens, own_slice}
use Rattle.admission.specs.Own.{register_for}
use Rattle.admission.proofs.GateLaws.{query_refused}
use Rattle.opening.proofs.SheetLaws.{open_answered}
use Rattle.opening.proofs.sheets.OpenSheet.open.Goals as goal

pub returns-clause-answers : goal.returns-clause-answers
returns-clause-answers c =
    λ limit. open_answered _ _ _ _ c.in_ok-pass_gate.ensures.gates.0 c.pass_gate.ensures.gates.1 limit _

pub returns-in_err-pass_gate-clause-answers : goal.returns-in_err-pass_gate-clause-answers
unfolding register_for own_slice lent_to
returns-in_err-pass_gate-clause-answers c =
    let p = err_from_is_err_and c.from_residual.result c.from_residual.ensures.1 in
    rw (p.1, p.2) (λ limit. query_refused limit _ opens _ refl _ _ c.in_err-pass_gate.ensures.gates.0 c.pass_gate.ensures.gates.1)
