use Rattle.std.proofs.Common.{rules}
use Rattle.planner.proofs.Transit.{ceil_is, transit_some}
use Rattle.planner.proofs.planning.transit_of.Goals as goal

pub returns : goal.returns
returns c =
    let ceil = ceil_is _ _ c.requires.0 c.requires.1 in
    let some = transit_some _ _ c.requires.0 c.requires.1 in
    search rules
