use Rattle.relaxing.proofs.Rounds.{so_far_more, so_far_all}
use Rattle.relaxing.proofs.relax.relax_all.Goals as goal

pub loop-e-preserved : goal.loop-e-preserved
loop-e-preserved c =
    so_far_more _ _ _ _ _ _ _ _ _ _ _ c.loop-e-test.true c.loop-e.invariant c.relax-r.ensures c.counted-changes.ensures

pub returns : goal.returns
returns c = so_far_all _ _ _ _ _ _ _ _ c.loop-e-test.false c.loop-e.invariant
