use Rattle.counters.proofs.Within.{within_yes, within_above}
use native.Mathlib.Omega.{arith}
use Rattle.valve.proofs.numbers.Amount.new.Goals as goal

pub returns-then-n-le-MAX : goal.returns-then-n-le-MAX
returns-then-n-le-MAX c = within_yes _ _ _ (omega arith) (omega arith)

pub returns-else-n-le-MAX : goal.returns-else-n-le-MAX
returns-else-n-le-MAX c = within_above _ _ _ (omega arith) (omega arith)
