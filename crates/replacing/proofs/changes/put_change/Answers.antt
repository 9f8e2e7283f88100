use mathlib.Core.Path.{sym}
use mathlib.Core.List.{[], ◌∷◌}
use Rattle.replacing.proofs.ChangeLaws.{put_none, put_one}
use Rattle.text.proofs.PageLaws.{write_two}
use Rattle.replacing.proofs.changes.put_change.Goals as goal

pub returns-then-new-old : goal.returns-then-new-old
returns-then-new-old c = put_none _ _ _ _ _ (sym c.if-new-old.true)

pub returns : goal.returns
returns c =
    put_one _ _ _ _ _ (λ e. c.if-new-old.false (sym e)) (write_two (_ ∷ []) _ _ _ _ c.put_u32-second.ensures (write_two (_ ∷ []) _ _ _ _ c.put_u32-third.ensures c.put_u32.ensures))
