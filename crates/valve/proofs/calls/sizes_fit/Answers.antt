use Rattle.std.proofs.Common.{rules}
use Rattle.valve.specs.Window.{sizes_fit}
use Rattle.valve.proofs.calls.sizes_fit.Goals as goal

pub returns-then-recipes : goal.returns-then-recipes
unfolding sizes_fit
returns-then-recipes c = search rules

pub returns-else-recipes : goal.returns-else-recipes
unfolding sizes_fit
returns-else-recipes c = search rules
