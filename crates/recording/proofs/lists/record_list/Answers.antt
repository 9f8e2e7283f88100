use Rattle.landing.proofs.RecordLaws.{list_records, list_bad}
use Rattle.list.specs.Reading.{as_header}
use Rattle.model.specs.Tables.{no_counts}
use mathlib.Core.Path.{ap, sym, ◌∙◌}
use Rattle.recording.proofs.lists.record_list.Goals as goal

pub returns-in-Ok : goal.returns-in-Ok
unfolding no_counts
returns-in-Ok c =
    list_records _ _ _ _ _ _ _ (ap as_header (sym c.in-Ok.is) ∙ c.read_header-header.ensures) c.note_records.ensures

pub returns-in-Err : goal.returns-in-Err
returns-in-Err c =
    rw c.none-counts.ensures (list_bad _ _ _ _ _ _ (ap as_header (sym c.in-Err.is) ∙ c.read_header-header.ensures))
