use Rattle.counting.proofs.Laws.{join_count}
use Rattle.counting.proofs.counts.count_joined.Goals as goal

pub returns : goal.returns
returns c =
    join_count _ _ _ _ _ _ _ _ _ _ _ _ _ _ _ _ _ c.leave_leaf-kept.ensures c.leave_leaf-other.ensures c.rises-up.ensures c.label_of.ensures c.next_label-lx.ensures c.next_label-ly.ensures c.next_label-lz.ensures c.count_relabelled.ensures
