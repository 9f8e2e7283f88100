use Rattle.insertion.proofs.Answers.{insert_done, ring_before, ring_now}
use Rattle.insertion.proofs.edges.insert_edge.Goals as goal

pub returns-then-rings : goal.returns-then-rings
returns-then-rings c =
    insert_done _ _ _ _ _ _ _ _ _ _ _ _ _ _ _ _ _ _ _ _ _ _ _ _ _ c.place_edge-p.ensures c.record_edge.ensures.0 c.record_edge.ensures.1
    c.record_edge.ensures.2 c.one_more16.ensures c.add32.ensures (ring_before _ _ c.if-rings.true)

pub returns-else-rings : goal.returns-else-rings
returns-else-rings c =
    insert_done _ _ _ _ _ _ _ _ _ _ _ _ _ _ _ _ _ _ _ _ _ _ _ _ _ c.place_edge-p.ensures c.record_edge.ensures.0 c.record_edge.ensures.1
    c.record_edge.ensures.2 c.one_more16.ensures c.add32.ensures (ring_now _ _ c.if-rings.false)
