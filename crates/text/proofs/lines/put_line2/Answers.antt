use Rattle.text.proofs.LineLaws.{line_more, line_one}
use Rattle.text.proofs.lines.put_line2.Goals as goal

pub returns : goal.returns
returns c =
    line_more _ _ _ _ _ _ c.put_field-second.ensures (line_one _ _ _ c.put_field.ensures)
