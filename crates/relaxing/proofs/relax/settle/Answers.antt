use Rattle.relaxing.proofs.Rounds.{round_settled}
use Rattle.relaxing.proofs.relax.settle.Goals as goal

pub returns-then-changes-eq0 : goal.returns-then-changes-eq0
returns-then-changes-eq0 c =
    round_settled _ _ _ _ _ c.loop-edges.distances _ _ _ c.loop-edges.invariant c.of-best.ensures c.if-changes-eq0.true c.relax_all-changes.ensures
