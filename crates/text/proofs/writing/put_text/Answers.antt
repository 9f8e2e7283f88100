use Rattle.text.proofs.Pieces.{plain, elements_on, elements_end}
use mathlib.Core.Path.{refl, sym, ◌∙◌}
use Rattle.text.proofs.writing.put_text.Goals as goal

pub loop-b-preserved : goal.loop-b-preserved
loop-b-preserved c =
    sym (elements_on _ plain _ _ _ _ _ c.loop-b-test.true refl c.put_byte-next.ensures) ∙ c.loop-b.invariant

pub returns : goal.returns
returns c = elements_end _ plain _ _ _ c.loop-b-test.false ∙ c.loop-b.invariant
