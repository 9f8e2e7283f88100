use Rattle.placement.proofs.Places.{meet_isolated, meet_left}
use mathlib.Core.Path.{sym, ◌∙◌}
use Rattle.placement.proofs.placing.meet_end.Goals as goal

pub returns-then-degree_of-eq0 : goal.returns-then-degree_of-eq0
returns-then-degree_of-eq0 c =
    c.put_sides.ensures ∙ meet_isolated _ _ _ _ (sym c.degree_of.ensures ∙ c.if-degree_of-eq0.true)

pub returns-else-degree_of-eq0 : goal.returns-else-degree_of-eq0
returns-else-degree_of-eq0 c = meet_left _ _ _ _ (λ e. c.if-degree_of-eq0.false (c.degree_of.ensures ∙ e))
