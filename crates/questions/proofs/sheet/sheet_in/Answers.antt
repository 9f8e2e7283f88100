use Rattle.questions.proofs.TableLaws.{sheet_short, sheet_whole}
use Rattle.tables.specs.Meaning.{tables}
use Rattle.questions.proofs.sheet.sheet_in.Goals as goal

pub returns-then-not-has_room : goal.returns-then-not-has_room
returns-then-not-has_room c = λ labels. sheet_short (tables _ _ _ _ _ labels) _ _ _ _ _ c.has_room.ensures c.if-not-has_room.true

pub returns : goal.returns
returns c =
    λ labels. sheet_whole (tables _ _ _ _ _ labels) _ _ _ _ _ c.has_room.ensures _ _ c.if-not-has_room.false c.put_rows.ensures.0 c.put_rows.ensures.1
