use Rattle.std.proofs.lemmas.Result.{err_from_is_err_and}
use Rattle.admission.proofs.GateLaws.{query_answered, query_refused}
use Rattle.questions.proofs.WritingLaws.{write_answers}
use Rattle.model.specs.Calls.{writing, lent_to}
use Rattle.nursery.specs.Calls.{writes, own_slice}
use Rattle.admission.specs.Own.{house_of, register_for}
use mathlib.Core.Path.{refl}
use Rattle.asking.proofs.write.write.Goals as goal

pub returns-clause-answers : goal.returns-clause-answers
returns-clause-answers c =
    λ limit removals. query_answered limit removals (writing _) _ _ _ _ c.in_ok-pass_gate.ensures.gates.0 c.pass_gate.ensures.gates.1
    (λ r k. write_answers _ _ _ _ _ _ _ _ _ _ c.write_in.ensures (house_of limit removals r) k)

pub returns-in_err-pass_gate-clause-answers : goal.returns-in_err-pass_gate-clause-answers
unfolding register_for own_slice lent_to
returns-in_err-pass_gate-clause-answers c =
    let p = err_from_is_err_and c.from_residual.result c.from_residual.ensures.1 in
    rw (p.1, p.2) (λ limit removals. query_refused limit removals (writes _) _ refl _ _ c.in_err-pass_gate.ensures.gates.0 c.pass_gate.ensures.gates.1)
