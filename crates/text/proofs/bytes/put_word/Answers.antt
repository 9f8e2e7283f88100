use mathlib.Core.Path.{refl, ◌∙◌}
use Rattle.model.specs.Basics.{bytes4}
use native.Mathlib.Omega.{arith}
use Rattle.text.proofs.ByteLaws.{bytes4_are}
use Rattle.text.proofs.PageLaws.{write_placed}
use Rattle.text.proofs.bytes.put_word.Goals as goal

pub returns-then-size-lt4 : goal.returns-then-size-lt4
returns-then-size-lt4 c = rw (← bytes4_are c.args.n, ← c.to_le_bytes-bytes.ensures) c.put_text.ensures

pub returns : goal.returns
unfolding bytes4
returns c =
    let four = c.copy_from_slice.ensures.after ∙ c.to_le_bytes-bytes.ensures ∙ bytes4_are c.args.n in
    rw four (write_placed (bytes4 c.args.n) _ _ _ refl (omega (arith, c.if-size-lt4.false, c.if-size-at.false)))
