use Rattle.counters.proofs.Within.{volume_known, volume_unknown, volume_above}
use native.Mathlib.Omega.{arith}
use Rattle.counters.proofs.numbers.Millilitres.new.Goals as goal

pub returns-then-n-lt-MIN : goal.returns-then-n-lt-MIN
returns-then-n-lt-MIN c = volume_unknown _ (omega arith)

pub returns-then-n-le-MAX : goal.returns-then-n-le-MAX
returns-then-n-le-MAX c = volume_known _ (omega arith) (omega arith)

pub returns : goal.returns
returns c = volume_above _ (omega arith)
