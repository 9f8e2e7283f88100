use Rattle.replacing.proofs.ChangeLaws.{put_turn, put_end}
use mathlib.Core.Path.{◌∙◌}
use Rattle.replacing.proofs.changes.put_changes.Goals as goal

pub loop-v-preserved : goal.loop-v-preserved
loop-v-preserved c =
    put_turn _ _ _ _ _ _ _ _ c.loop-v-test.true c.of.ensures c.of-in-loop-v.ensures c.put_change-next.ensures ∙ c.loop-v.invariant

pub returns : goal.returns
returns c = put_end _ _ _ _ _ _ c.loop-v-test.false c.loop-v.invariant
