use Rattle.replacing.proofs.ChangeLaws.{changed_small, count_turn, count_end}
use mathlib.Core.Path.{◌∙◌}
use native.Mathlib.Omega.{arith}
use Rattle.replacing.proofs.changes.count_changes.Goals as goal

pub loop-v-preserved : goal.loop-v-preserved
loop-v-preserved c = (
  omega (arith, changed_small c.of.result c.of-in-loop-v.result, c.changed-count.ensures, c.loop-v.invariant.0),
  count_turn _ _ _ _ _ _ _ _ c.loop-v-test.true c.of.ensures c.of-in-loop-v.ensures c.changed-count.ensures ∙ c.loop-v.invariant.1,
)

pub returns : goal.returns
returns c = count_end _ _ _ _ _ _ c.loop-v-test.false c.loop-v.invariant.1
