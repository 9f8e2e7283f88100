use Rattle.counters.proofs.Within.{within_yes, within_below, within_above}
use native.Mathlib.Omega.{arith}
use Rattle.planner.proofs.numbers.Flow.new.Goals as goal
use Rattle.planner.proofs.numbers.Flow.new.Goals.{else-n-ge-MIN-via-then-n-ge-MIN+else-n-le-MAX, else-n-ge-MIN-via-else-n-ge-MIN}

pub returns-then-n-le-MAX : goal.returns-then-n-le-MAX
returns-then-n-le-MAX c = within_yes _ _ _ (omega arith) (omega arith)

pub returns-else-n-ge-MIN : goal.returns-else-n-ge-MIN
returns-else-n-ge-MIN c =
    elim c.else-n-ge-MIN.branch [
      | else-n-ge-MIN-via-then-n-ge-MIN+else-n-le-MAX w ↦ within_above _ _ _ (omega arith) (omega arith)
      | else-n-ge-MIN-via-else-n-ge-MIN w ↦ within_below _ _ _ (omega arith)
    ]
