use Rattle.tables.specs.Steps.{raise_in}
use Rattle.tables.proofs.steps.raise_degree.Goals as goal

pub returns : goal.returns
unfolding raise_in
returns c = cc
