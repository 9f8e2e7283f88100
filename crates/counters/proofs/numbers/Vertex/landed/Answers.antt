use Rattle.counters.proofs.Within.{landed_above, landed_yes, landed_no}
use native.Mathlib.Omega.{arith}
use Rattle.counters.proofs.numbers.Vertex.landed.Goals as goal

pub returns-then-n-ge-COUNT : goal.returns-then-n-ge-COUNT
returns-then-n-ge-COUNT c = landed_above _ _ (omega arith)

pub returns-then-n-count : goal.returns-then-n-count
returns-then-n-count c = landed_yes _ _ (omega arith) (omega arith)

pub returns : goal.returns
returns c = landed_no _ _ (omega arith) (omega arith)
