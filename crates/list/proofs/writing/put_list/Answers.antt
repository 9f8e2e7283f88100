use Rattle.list.proofs.WritingLaws.{list_parts}
use Rattle.list.proofs.writing.put_list.Goals as goal

pub returns : goal.returns
returns c =
    list_parts _ _ _ _ _ _ _ _ c.put_header-vertices.ensures c.put_vertices-edges.ensures c.put_edges.ensures
