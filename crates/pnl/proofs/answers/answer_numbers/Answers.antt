use mathlib.Core.Path.{refl, ◌∙◌}
use native.Mathlib.Omega.{arith}
use Rattle.pnl.proofs.Returns.{value_kept}
use Rattle.pnl.proofs.Bytes.{numbers_short, numbers_fit}
use Rattle.pnl.proofs.answers.answer_numbers.Goals as goal

pub returns-then-answer-size : goal.returns-then-answer-size
returns-then-answer-size c = numbers_short _ _ _ refl _ c.if-answer-size.true (value_kept c.refused.type_inv ∙ c.refused.ensures)

pub returns : goal.returns
returns c =
    numbers_fit _ _ _ refl _ _ _ (omega (arith, c.if-answer-size.false)) c.put_words.ensures (value_kept c.byte_count.type_inv ∙ c.byte_count.ensures)
