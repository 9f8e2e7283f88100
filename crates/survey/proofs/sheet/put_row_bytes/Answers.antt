use Rattle.survey.proofs.sheet.put_row_bytes.Goals as goal

pub returns : goal.returns
returns c =
    rw (← c.from-name.ensures, ← c.from-lower.ensures, ← c.from-other.ensures) c.put_words.ensures
