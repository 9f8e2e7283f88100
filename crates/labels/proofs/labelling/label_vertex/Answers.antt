use Rattle.labels.proofs.Labels.{label_law}
use Rattle.labels.proofs.labelling.label_vertex.Goals as goal

pub returns-then-is_relabelled : goal.returns-then-is_relabelled
returns-then-is_relabelled c =
    label_law _ _ _ _ _ _ _ _ _ _ _ _ c.label_of-old.ensures c.put_label.ensures c.orient_sides.ensures
    c.is_relabelled.ensures (rw c.if-is_relabelled.true)

pub returns-else-is_relabelled : goal.returns-else-is_relabelled
returns-else-is_relabelled c =
    label_law _ _ _ _ _ _ _ _ _ _ _ _ c.label_of-old.ensures c.put_label.ensures c.orient_sides.ensures
    c.is_relabelled.ensures (rw c.if-is_relabelled.false)
