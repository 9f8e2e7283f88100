use mathlib.Core.List.{[], ◌∷◌}
use Rattle.text.proofs.PageLaws.{write_two}
use Rattle.questions.proofs.sheet.put_row.Goals as goal

pub returns : goal.returns
returns c =
    rw (← c.from.ensures, ← c.from-2.ensures, ← c.from-3.ensures) (write_two (_ ∷ []) _ _ _ _ c.put_u32-second.ensures
    (write_two (_ ∷ []) _ _ _ _ c.put_u32-third.ensures
    (write_two (_ ∷ []) _ _ _ _ c.put_u32-fourth.ensures
    (write_two (_ ∷ []) _ _ _ _ c.put_u32-fifth.ensures
    (write_two (_ ∷ []) _ _ _ _ c.put_u32-sixth.ensures c.put_u32.ensures)))))
