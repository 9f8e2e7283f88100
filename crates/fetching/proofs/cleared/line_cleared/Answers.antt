use mathlib.Core.Path.{◌∙◌}
use Rattle.holding.proofs.ReplayLaws.{zeroed_again}
use Rattle.fetching.proofs.cleared.line_cleared.Goals as goal

pub returns-clause-cleared : goal.returns-clause-cleared
returns-clause-cleared c = c.clear_tables.ensures.cleared ∙ zeroed_again c.line_named-line.ensures.lent
