use mathlib.Core.Path.{ap, sym, ◌∙◌}
use Rattle.list.specs.Reading.{as_record}
use Rattle.landing.proofs.RecordLaws.{record_ends, record_vertex, record_edge, record_bad}
use Rattle.landing.proofs.records.land_record.Goals as goal

pub returns-in-End-clause-lands : goal.returns-in-End-clause-lands
returns-in-End-clause-lands c = record_ends _ _ _ _ _ _ (ap as_record (sym c.in-End.is) ∙ c.record_at-found.ensures)

pub returns-in-Vertex-clause-lands : goal.returns-in-Vertex-clause-lands
returns-in-Vertex-clause-lands c =
    record_vertex _ _ _ _ _ _ _ _ _ (ap as_record (sym c.in-Vertex.is) ∙ c.record_at-found.ensures) c.land_vertex.ensures c.step_of.ensures

pub returns-in-Edge-clause-lands : goal.returns-in-Edge-clause-lands
returns-in-Edge-clause-lands c =
    record_edge _ _ _ _ _ _ _ _ _ _ _ (ap as_record (sym c.in-Edge.is) ∙ c.record_at-found.ensures) c.land_edge-inserted.ensures c.step_of-in-Edge.ensures

pub returns-in-Refused-clause-lands : goal.returns-in-Refused-clause-lands
returns-in-Refused-clause-lands c = record_bad _ _ _ _ _ _ _ (ap as_record (sym c.in-Refused.is) ∙ c.record_at-found.ensures)
