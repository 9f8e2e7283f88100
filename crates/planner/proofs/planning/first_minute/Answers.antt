use Rattle.std.proofs.Common.{rules}
use Rattle.planner.proofs.PlanLaws.{this_is_earliest, next_is_earliest}
use Rattle.planner.proofs.planning.first_minute.Goals as goal

pub returns : goal.returns
returns c =
    let this = this_is_earliest _ _ _ c.requires.1.1 c.requires.0 c.requires.1.0 in
    let next = next_is_earliest _ _ _ c.requires.1.1 c.requires.0 c.requires.1.0 in
    search rules
