use Rattle.survey.proofs.Rows.{sheet_short, sheet_whole}
use Rattle.pnl.proofs.Returns.{value_kept}
use mathlib.Core.Path.{◌∙◌}
use Rattle.survey.proofs.sheet.answer_sheet.Goals as goal

pub returns-then-not-has_room : goal.returns-then-not-has_room
returns-then-not-has_room c = sheet_short _ _ _ _ _ _ _ _ _ c.has_room.ensures _ c.if-not-has_room.true (value_kept c.refused.type_inv ∙ c.refused.ensures)

pub returns : goal.returns
returns c =
    sheet_whole _ _ _ _ _ _ _ _ _ c.has_room.ensures _ _ _ c.if-not-has_room.false c.put_sheet_bytes-count.ensures.0 c.put_sheet_bytes-count.ensures.1 (value_kept c.byte_count.type_inv ∙ c.byte_count.ensures)
