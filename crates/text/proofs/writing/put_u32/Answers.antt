use mathlib.Core.Path.{sym}
use mathlib.Core.List.{[]}
use Rattle.text.specs.Pages.{write}
use Rattle.text.proofs.PageLaws.{write_in, write_past}
use Rattle.text.proofs.writing.put_u32.Goals as goal

pub returns-then-at-out : goal.returns-then-at-out
unfolding write
returns-then-at-out c = sym (write_in _ [] _ _ c.if-at-out.true)

pub returns : goal.returns
unfolding write
returns c = sym (write_past _ [] _ _ c.if-at-out.false)
