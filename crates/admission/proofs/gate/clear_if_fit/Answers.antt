use mathlib.Core.Path.{ap, refl, sym, ◌∙◌}
use Rattle.model.specs.Tables.{fits}
use Rattle.admission.proofs.gate.clear_if_fit.Goals as goal

pub returns-then-not-sizes_fit-clause-clears : goal.returns-then-not-sizes_fit-clause-clears
returns-then-not-sizes_fit-clause-clears c = (rw (sym (c.sizes_fit.ensures ∙ ap fits c.view.ensures) ∙ c.if-not-sizes_fit.true), refl, refl)

pub returns-then-not-sizes_fit-2-clause-clears : goal.returns-then-not-sizes_fit-2-clause-clears
returns-then-not-sizes_fit-2-clause-clears c =
    (rw (sym (c.sizes_fit.ensures ∙ ap fits c.view.ensures) ∙ c.if-not-sizes_fit.false) (sym c.if-not-sizes_fit-2.true ∙ (c.sizes_fit-2.ensures ∙ ap fits c.view-2.ensures)), refl, refl)

pub returns-clause-clears : goal.returns-clause-clears
returns-clause-clears c =
    (rw (sym (c.sizes_fit.ensures ∙ ap fits c.view.ensures) ∙ c.if-not-sizes_fit.false) (sym c.if-not-sizes_fit-2.false ∙ (c.sizes_fit-2.ensures ∙ ap fits c.view-2.ensures)), c.clear_tables.ensures.cleared, c.clear_tables-2.ensures.cleared)
