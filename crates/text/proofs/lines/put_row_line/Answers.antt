use Rattle.text.proofs.LineLaws.{row_law}
use Rattle.text.proofs.lines.put_row_line.Goals as goal

pub returns : goal.returns
returns c =
    row_law _ _ _ _ _ _ _ _ _ _ _ _ _ c.put_field-second.ensures c.put_field-third.ensures c.put_field-fourth.ensures c.put_field-fifth.ensures
    c.put_field-last.ensures c.put_volume.ensures
