use mathlib.Core.Path.{sym, ◌∙◌}
use Rattle.chains.proofs.WalkLaws.{goes_singular, goes_regular}
use Rattle.chains.proofs.walks.goes_on.Goals as goal

pub returns-then-degree_of-ne2 : goal.returns-then-degree_of-ne2
returns-then-degree_of-ne2 c = goes_singular _ _ _ (λ e. c.if-degree_of-ne2.true (c.degree_of.ensures ∙ e))

pub returns : goal.returns
returns c = goes_regular _ _ _ (sym c.degree_of.ensures ∙ c.if-degree_of-ne2.false)
