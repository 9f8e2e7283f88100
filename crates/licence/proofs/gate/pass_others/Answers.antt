use Rattle.licence.proofs.PassLaws.{eight_long, houses_bar, others_bar, others_pass, scratch_bars}
use mathlib.Core.Path.{ap, sym, ◌∙◌}
use Rattle.model.specs.Tables.{fits}
use Rattle.licence.proofs.gate.pass_others.Goals as goal

pub returns-then-not-houses_fit-clause-gates : goal.returns-then-not-houses_fit-clause-gates
returns-then-not-houses_fit-clause-gates c = houses_bar _ _ _ _ _ _ (sym c.if-not-houses_fit.true ∙ c.houses_fit.ensures)

pub returns-then-not-sizes_fit-clause-gates : goal.returns-then-not-sizes_fit-clause-gates
returns-then-not-sizes_fit-clause-gates c =
    scratch_bars _ _ _ _ _ _ (sym c.houses_fit.ensures ∙ c.if-not-houses_fit.false) (sym c.if-not-sizes_fit.true ∙ c.sizes_fit.ensures ∙ ap fits c.view.ensures)

pub others_held-requires : goal.others_held-requires
others_held-requires c =
    ((eight_long _ _ (sym c.houses_fit.ensures ∙ c.if-not-houses_fit.false)).0, sym (c.sizes_fit.ensures ∙ ap fits c.view.ensures) ∙ c.if-not-sizes_fit.false)

pub returns-then-not-others_held-clause-gates : goal.returns-then-not-others_held-clause-gates
returns-then-not-others_held-clause-gates c =
    others_bar _ _ _ _ _ _ (sym c.houses_fit.ensures ∙ c.if-not-houses_fit.false) (sym (c.sizes_fit.ensures ∙ ap fits c.view.ensures) ∙ c.if-not-sizes_fit.false) _ c.others_held.ensures.cleared (sym c.if-not-others_held.true ∙ c.others_held.ensures.tells)

pub pass_licence-requires : goal.pass_licence-requires
pass_licence-requires c =
    (eight_long _ _ (sym c.houses_fit.ensures ∙ c.if-not-houses_fit.false)).1

pub returns-clause-gates : goal.returns-clause-gates
returns-clause-gates c =
    others_pass _ _ _ _ _ _ (sym c.houses_fit.ensures ∙ c.if-not-houses_fit.false) (sym (c.sizes_fit.ensures ∙ ap fits c.view.ensures) ∙ c.if-not-sizes_fit.false) _ _ c.others_held.ensures.cleared (sym c.others_held.ensures.tells ∙ c.if-not-others_held.false) c.pass_licence.ensures
