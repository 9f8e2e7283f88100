use Rattle.std.proofs.Common.{rules}
use Rattle.planner.proofs.InCLaws.{given_in_C, out_in_C}
use Rattle.planner.proofs.lent.plan_lent.Goals as goal

pub returns-in_default : goal.returns-in_default
returns-in_default c = out_in_C _ _ _ _ _ c.in_default.ensures (search rules)

pub returns : goal.returns
returns c = given_in_C _ _ _ _ _ _ _ c.in-Some.ensures c.plan_change.ensures (search rules)
