use Rattle.std.proofs.Common.{rules}
use Rattle.valve.proofs.InCLaws.{answered_in_C}
use Rattle.valve.proofs.lent.recipe_lent.Goals as goal

pub returns : goal.returns
returns c = answered_in_C _ _ _ _ c.at_valve.ensures (search rules)
