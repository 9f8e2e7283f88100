use Rattle.std.proofs.Common.{rules}
use Rattle.planner.specs.Planning.{out_of_bounds}
use Rattle.planner.proofs.BoundLaws.{counted}
use Rattle.planner.proofs.planning.out_of_bounds.Goals as goal

pub returns-then-minute-gt-MAX : goal.returns-then-minute-gt-MAX
unfolding out_of_bounds
returns-then-minute-gt-MAX c = search rules

pub returns-else-minute-gt-MAX : goal.returns-else-minute-gt-MAX
unfolding out_of_bounds
returns-else-minute-gt-MAX c = rw (← counted c.args.windows.now) (search rules)
