use mathlib.Core.Path.{◌∙◌}
use Rattle.text.proofs.ByteLaws.{copies_on, copies_end}
use Rattle.text.proofs.records.put_vertices.Goals as goal

pub loop-preserved : goal.loop-preserved
loop-preserved c = copies_on _ _ _ _ _ c.loop-test.true c.put_byte-next.ensures ∙ c.loop.invariant

pub returns : goal.returns
returns c = copies_end 0x46 _ _ _ c.loop-test.false ∙ c.loop.invariant
