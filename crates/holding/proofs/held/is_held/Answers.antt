use Rattle.holding.proofs.ReplayLaws.{zeroed_again, regrows_on}
use mathlib.Core.Path.{◌∙◌}
use Rattle.holding.proofs.held.is_held.Goals as goal

pub returns-clause-cleared : goal.returns-clause-cleared
returns-clause-cleared c =
    c.clear_tables-2.ensures.cleared ∙ zeroed_again c.leaves_same-same.ensures.lent ∙ zeroed_again c.clear_tables.ensures.lent

pub returns-clause-tells : goal.returns-clause-tells
returns-clause-tells c =
    regrows_on _ _ _ _ _ c.clear_tables.ensures.cleared c.leaves_same-same.ensures.tells
