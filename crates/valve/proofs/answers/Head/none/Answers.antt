use mathlib.Core.Path.{refl}
use Rattle.valve.specs.Window.{empty}
use Rattle.valve.proofs.answers.Head.none.Goals as goal

pub returns : goal.returns
unfolding empty
returns c = refl
