use Rattle.admission.proofs.GateLaws.{gate_tables, gate_scratch, gate_not_grown, gate_open}
use mathlib.Core.Path.{ap, sym, ◌∙◌}
use Rattle.model.specs.Tables.{fits}
use Rattle.admission.proofs.gate.pass_gate.Goals as goal

pub returns-then-not-sizes_fit-clause-gates : goal.returns-then-not-sizes_fit-clause-gates
returns-then-not-sizes_fit-clause-gates c = gate_tables _ _ _ (sym c.sizes_fit.ensures ∙ c.if-not-sizes_fit.true)

pub returns-then-not-sizes_fit-2-clause-gates : goal.returns-then-not-sizes_fit-2-clause-gates
returns-then-not-sizes_fit-2-clause-gates c =
    gate_scratch _ _ _ (sym c.sizes_fit.ensures ∙ c.if-not-sizes_fit.false) (sym (c.sizes_fit-2.ensures ∙ ap fits c.view.ensures) ∙ c.if-not-sizes_fit-2.true)

pub returns-then-not-is_held-clause-gates : goal.returns-then-not-is_held-clause-gates
returns-then-not-is_held-clause-gates c =
    gate_not_grown _ _ _ (sym c.sizes_fit.ensures ∙ c.if-not-sizes_fit.false) (sym (c.sizes_fit-2.ensures ∙ ap fits c.view.ensures) ∙ c.if-not-sizes_fit-2.false) _ _ c.is_held.ensures.cleared c.is_held.ensures.tells c.if-not-is_held.true

pub returns-clause-gates : goal.returns-clause-gates
returns-clause-gates c =
    gate_open _ _ _ (sym c.sizes_fit.ensures ∙ c.if-not-sizes_fit.false) (sym (c.sizes_fit-2.ensures ∙ ap fits c.view.ensures) ∙ c.if-not-sizes_fit-2.false) _ _ c.is_held.ensures.cleared c.is_held.ensures.tells c.if-not-is_held.false
