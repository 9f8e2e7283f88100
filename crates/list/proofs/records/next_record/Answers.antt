use Rattle.list.proofs.RecordLaws.{record_end, record_vertex, record_kind, record_cut, record_edge}
use native.Mathlib.Omega.{arith}
use Rattle.list.proofs.records.next_record.Goals as goal

pub returns-then-list-at : goal.returns-then-list-at
returns-then-list-at c = record_end _ _ _ c.if-list-at.true

pub returns-then-kind-eq-VERTEX_KIND : goal.returns-then-kind-eq-VERTEX_KIND
returns-then-kind-eq-VERTEX_KIND c = record_vertex _ _ _ (omega (arith, c.if-list-at.false)) c.if-kind-eq-VERTEX_KIND.true

pub returns-then-kind-ne-EDGE_KIND : goal.returns-then-kind-ne-EDGE_KIND
returns-then-kind-ne-EDGE_KIND c = record_kind _ _ _ (omega (arith, c.if-list-at.false)) c.if-kind-eq-VERTEX_KIND.false c.if-kind-ne-EDGE_KIND.true

pub returns-then-list-at-2 : goal.returns-then-list-at-2
returns-then-list-at-2 c =
    record_cut _ _ _ _ c.edge_size-size.ensures.0 (omega (arith, c.if-list-at.false)) c.if-kind-eq-VERTEX_KIND.false c.if-kind-ne-EDGE_KIND.false c.if-list-at-2.true

pub returns : goal.returns
returns c =
    record_edge _ _ _ _ _ _ _ _ c.edge_size-size.ensures.0 (omega (arith, c.if-list-at.false)) c.if-kind-eq-VERTEX_KIND.false c.if-kind-ne-EDGE_KIND.false
    (omega (arith, c.if-list-at-2.false)) c.u16_at-first.ensures c.u16_at-second.ensures c.u32_at-length.ensures c.volume_at-volume.ensures
