use Rattle.text.proofs.PageLaws.{write_two}
use Rattle.text.proofs.writing.put_field.Goals as goal

pub returns : goal.returns
returns c =
    write_two _ _ _ _ _ c.put_number-next.ensures c.put_byte.ensures
