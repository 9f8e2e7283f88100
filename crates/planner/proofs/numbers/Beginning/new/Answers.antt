use Rattle.counters.proofs.Within.{within_yes, within_above}
use native.Mathlib.Omega.{arith}
use Rattle.planner.proofs.numbers.Beginning.new.Goals as goal

pub returns-then-n : goal.returns-then-n
returns-then-n c = within_yes _ _ _ (omega arith) (omega arith)

pub returns-else-n : goal.returns-else-n
returns-else-n c = within_above _ _ _ (omega arith) (omega arith)
