use Rattle.tables.specs.Steps.{zeroed}
use mathlib.Core.Path.{◌∙◌}
use Rattle.questions.proofs.measure.measure.Goals as goal

pub returns-clause-cleared : goal.returns-clause-cleared
unfolding zeroed
returns-clause-cleared c =
    let k = c.measure_in-answer.auto in
    c.clear_tables.ensures.cleared ∙ rw (k.heads, k.heap, k.next, k.distances, k.keys)
