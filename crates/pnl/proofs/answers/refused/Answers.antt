use Rattle.pnl.proofs.Returns.{number_fits, negation_fits, negation_is}
use Rattle.pnl.proofs.answers.refused.Goals as goal

pub overflow_cast-result : goal.overflow_cast-result
overflow_cast-result c = number_fits c.args.refusal _ c.number-number.ensures

pub overflow_sub-result : goal.overflow_sub-result
overflow_sub-result c = negation_fits c.args.refusal _ c.number-number.ensures

pub returns : goal.returns
returns c = negation_is c.args.refusal _ c.number-number.ensures
