use mathlib.Core.Path.{refl, sym, ap, ◌∙◌}
use Rattle.nursery.specs.Calls.{commits, own_slice}
use Rattle.admission.specs.Own.{register_for}
use Rattle.admission.specs.Gate.{gate_refusal}
use Rattle.admission.proofs.GateLaws.{query_refused}
use Rattle.calls.proofs.CallLaws.{commit_done}
use Rattle.calls.proofs.commit.commit_own.Goals as goal

pub returns-in-Ok-clause-steps : goal.returns-in-Ok-clause-steps
returns-in-Ok-clause-steps c =
    let gates = c.pass_gate-passed.ensures.gates in
    λ removals. commit_done _ removals _ _ _ _ _ _ _ _ _ (ap gate_refusal (sym c.in-Ok.is) ∙ gates.0) gates.1 c.commit_quote-inserted.ensures c.keep_counts.ensures.0 c.keep_counts.ensures.1

pub returns-in-Err-clause-steps : goal.returns-in-Err-clause-steps
unfolding register_for own_slice
returns-in-Err-clause-steps c =
    let gates = c.pass_gate-passed.ensures.gates in
    λ removals. query_refused _ removals (commits _) _ refl _ _ (ap gate_refusal (sym c.in-Err.is) ∙ gates.0) gates.1
