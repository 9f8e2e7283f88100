use Rattle.landing.proofs.RecordLaws.{record_ends, record_vertex, record_edge, record_bad}
use Rattle.list.specs.Reading.{as_record}
use mathlib.Core.Path.{ap, sym, ◌∙◌}
use Rattle.recording.proofs.lists.note_record.Goals as goal

pub returns-in-End : goal.returns-in-End
returns-in-End c = record_ends _ _ _ _ _ _ (ap as_record (sym c.in-End.is) ∙ c.record_at-found.ensures)

pub returns-in-Vertex : goal.returns-in-Vertex
returns-in-Vertex c =
    record_vertex _ _ _ _ _ _ _ _ _ (ap as_record (sym c.in-Vertex.is) ∙ c.record_at-found.ensures) c.land_vertex.ensures c.step_of.ensures

pub returns-in-Edge : goal.returns-in-Edge
returns-in-Edge c =
    record_edge _ _ _ _ _ _ _ _ _ _ _ (ap as_record (sym c.in-Edge.is) ∙ c.record_at-found.ensures) c.land_unlabelled-inserted.ensures c.step_of-in-Edge.ensures

pub returns-in-Refused : goal.returns-in-Refused
returns-in-Refused c = record_bad _ _ _ _ _ _ _ (ap as_record (sym c.in-Refused.is) ∙ c.record_at-found.ensures)
