use Rattle.committing.proofs.Pairs.{pair_law}
use Rattle.committing.proofs.edges.land_edge.Goals as goal

pub returns : goal.returns
returns c =
    pair_law _ _ _ _ _ c.prepare_edge-prepared.result.intent _ c.prepare_edge-prepared.ensures.1 c.commit_edge.ensures
