use Rattle.landing.proofs.RecordLaws.{list_records, list_bad}
use Rattle.list.specs.Reading.{as_header}
use mathlib.Core.Path.{ap, sym, ◌∙◌}
use Rattle.landing.proofs.records.land_list.Goals as goal

pub returns-in-Ok-clause-lands : goal.returns-in-Ok-clause-lands
returns-in-Ok-clause-lands c =
    list_records _ _ _ _ _ _ _ (ap as_header (sym c.in-Ok.is) ∙ c.read_header-header.ensures) c.land_records.ensures.lands

pub returns-in-Err-clause-lands : goal.returns-in-Err-clause-lands
returns-in-Err-clause-lands c = list_bad _ _ _ _ _ _ (ap as_header (sym c.in-Err.is) ∙ c.read_header-header.ensures)
