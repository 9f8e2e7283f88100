use mathlib.Core.Path.{◌≡◌, refl, sym, ap, ◌∙◌}
use Rattle.std.proofs.Common.{rules}
use Rattle.model.specs.Tables.{Tables}
use Rattle.tables.specs.Meaning.{tables}
use Rattle.lent.specs.Lent.{of_lent}
use Rattle.nursery.specs.Calls.{lands, own_slice}
use Rattle.landing.specs.Meaning.{as_reading}
use Rattle.admission.specs.Own.{register_for}
use Rattle.admission.specs.Gate.{gate_refusal}
use Rattle.admission.proofs.GateLaws.{query_refused}
use Rattle.calls.proofs.CallLaws.{land_done}
use Rattle.calls.proofs.land.land_own.Goals as goal

pub returns-in-Ok-clause-steps : goal.returns-in-Ok-clause-steps
returns-in-Ok-clause-steps c =
    let gates = rw c.view.ensures at c.pass_gate-passed.ensures.gates in
    let back : tables _ _ _ _ _ _ ≡ of_lent c.land_read-reading.new.register = search rules in
    λ removals. land_done _ removals _ _ _ _ _ _ (ap gate_refusal (sym c.in-Ok.is) ∙ gates.0) gates.1
    (ap (λ (t : Tables). as_reading t c.land_read-reading.result) back ∙ c.land_read-reading.ensures.lands)

pub returns-in-Err-clause-steps : goal.returns-in-Err-clause-steps
unfolding register_for own_slice
returns-in-Err-clause-steps c =
    let gates = rw c.view.ensures at c.pass_gate-passed.ensures.gates in
    λ removals. query_refused _ removals (lands _) _ refl _ _ (ap gate_refusal (sym c.in-Err.is) ∙ gates.0) gates.1
