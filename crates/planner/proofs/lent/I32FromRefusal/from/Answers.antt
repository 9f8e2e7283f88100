use Rattle.planner.specs.FromC.{number_in_c}
use Rattle.planner.proofs.lent.I32FromRefusal.from.Goals as goal

pub returns-in-OutOfBounds : goal.returns-in-OutOfBounds
unfolding number_in_c
returns-in-OutOfBounds c = rw c.in-OutOfBounds.is

pub returns-in-Windows : goal.returns-in-Windows
unfolding number_in_c
returns-in-Windows c = rw c.in-Windows.is
