use Rattle.text.proofs.LineLaws.{line_more}
use Rattle.text.proofs.lines.put_line4.Goals as goal

pub returns : goal.returns
returns c =
    line_more _ _ _ _ _ _ c.put_field-second.ensures (line_more _ _ _ _ _ _ c.put_field-third.ensures c.put_line2.ensures)
