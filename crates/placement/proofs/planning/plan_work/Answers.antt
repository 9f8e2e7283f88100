use Rattle.placement.proofs.Plans.{plan_merge, plan_open}
use Rattle.placement.proofs.planning.plan_work.Goals as goal

pub returns-in-Merge : goal.returns-in-Merge
returns-in-Merge c = plan_merge _ _ _ _ _ _ _ _ _ _ c.in-Merge.is c.merger_of-merger.ensures c.none-rounds.ensures

pub returns-in-Open : goal.returns-in-Open
returns-in-Open c = plan_open _ _ _ _ _ _ _ _ _ _ _ c.in-Open.is c.rounds_for-rounds.ensures
