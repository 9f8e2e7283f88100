use mathlib.Core.Path.{refl}
use Rattle.model.specs.Labels.{base}
use Rattle.labels.proofs.labelling.base.Goals as goal

pub returns : goal.returns
unfolding base
returns c = refl
