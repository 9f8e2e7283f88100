use Rattle.counting.proofs.Laws.{moved_law}
use Rattle.counting.proofs.counts.moved.Goals as goal

pub returns-then-is_relabelled : goal.returns-then-is_relabelled
returns-then-is_relabelled c = moved_law _ _ _ _ _ c.label_of-old.ensures c.is_relabelled.ensures (rw c.if-is_relabelled.true)

pub returns-else-is_relabelled : goal.returns-else-is_relabelled
returns-else-is_relabelled c = moved_law _ _ _ _ _ c.label_of-old.ensures c.is_relabelled.ensures (rw c.if-is_relabelled.false)
