use Rattle.list.proofs.WritingLaws.{one_edge_lem}
use Rattle.list.proofs.writing.put_edge_of.Goals as goal

pub returns : goal.returns
returns c =
    one_edge_lem _ _ _ _ _ _ _ _ _ _ c.at.ensures c.at-2.ensures c.of.ensures c.of-2.ensures c.put_edge.ensures
