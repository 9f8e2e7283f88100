use Rattle.tables.specs.Steps.{raise_both_in}
use Rattle.tables.proofs.steps.raise_both.Goals as goal

pub returns : goal.returns
unfolding raise_both_in
returns c = cc
