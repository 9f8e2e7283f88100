use Rattle.relaxing.proofs.Relaxing.{within}
use Rattle.relaxing.proofs.relax.all_still.Goals as goal

pub may_lower-requires : goal.may_lower-requires
may_lower-requires c = within _ _ _ _ c.requires _ c.loop-e-test.true
