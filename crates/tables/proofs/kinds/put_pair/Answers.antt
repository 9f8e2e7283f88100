use Rattle.tables.specs.Steps.{set_pair}
use Rattle.tables.proofs.kinds.put_pair.Goals as goal

pub returns : goal.returns
unfolding set_pair
returns c = cc
