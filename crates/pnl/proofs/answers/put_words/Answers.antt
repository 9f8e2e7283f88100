use mathlib.Core.Path.{refl, sym, ◌∙◌}
use Rattle.pnl.proofs.Bytes.{words, word_one}
use Rattle.text.proofs.Pieces.{elements_on, elements_end}
use Rattle.pnl.proofs.answers.put_words.Goals as goal

pub loop-n-preserved : goal.loop-n-preserved
loop-n-preserved c =
    sym (elements_on _ words _ _ _ _ _ c.loop-n-test.true refl (word_one _ _ _ c.put_word-next.ensures)) ∙ c.loop-n.invariant

pub returns : goal.returns
returns c = elements_end _ words _ _ _ c.loop-n-test.false ∙ c.loop-n.invariant
