use Rattle.text.proofs.ByteLaws.{edge_law}
use Rattle.text.proofs.records.put_edge.Goals as goal

pub returns : goal.returns
returns c =
    edge_law _ _ _ _ _ _ _ _ _ _ c.put_byte-ends.ensures c.put_u16-other.ensures c.put_u16-millimetres.ensures c.put_word-millilitres.ensures c.put_word.ensures
