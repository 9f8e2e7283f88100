use Rattle.planner.proofs.LineLaws.{plan_of_line}
use Rattle.planner.proofs.lines.plan_line.Goals as goal

pub returns : goal.returns
returns c = plan_of_line _ _ _ _ _ _ c.plan_change.ensures c.volume_of-volume.ensures
