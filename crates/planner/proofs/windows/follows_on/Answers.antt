use Rattle.std.proofs.Common.{rules}
use Rattle.planner.specs.Windows.{follows}
use Rattle.planner.proofs.windows.follows_on.Goals as goal

pub returns-then-start-end : goal.returns-then-start-end
unfolding follows
returns-then-start-end c = search rules

pub returns-else-start-end : goal.returns-else-start-end
unfolding follows
returns-else-start-end c = search rules
