use Rattle.list.proofs.RecordLaws.{size_known, size_plain}
use native.Mathlib.Omega.{arith}
use Rattle.list.proofs.records.edge_size.Goals as goal

pub returns-then-version-eq-WITH_VOLUMES : goal.returns-then-version-eq-WITH_VOLUMES
returns-then-version-eq-WITH_VOLUMES c = (size_known _ c.if-version-eq-WITH_VOLUMES.true, omega arith)

pub returns-else-version-eq-WITH_VOLUMES : goal.returns-else-version-eq-WITH_VOLUMES
returns-else-version-eq-WITH_VOLUMES c = (size_plain _ c.if-version-eq-WITH_VOLUMES.false, omega arith)
