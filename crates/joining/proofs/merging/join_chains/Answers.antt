use native.Mathlib.Omega.{arith}
use Rattle.joining.proofs.Merges.{join_law}
use Rattle.labels.proofs.Labels.{label_le, relabel_le}
use Rattle.joining.proofs.merging.join_chains.Goals as goal

pub overflow_add-result : goal.overflow_add-result
overflow_add-result c =
    let y = label_le _ _ _ _ _ _ _ _ _ _ c.label_vertex-m.ensures in
    let rest = relabel_le _ _ _ _ _ _ _ _ _ _ _ _ c.relabel_chain-rest.ensures in
    omega (arith, y, rest, c.ranges.fuel.fits)

pub overflow_add-result-2 : goal.overflow_add-result-2
overflow_add-result-2 c =
    let x = label_le _ _ _ _ _ _ _ _ _ _ c.label_vertex-n.ensures in
    let y = label_le _ _ _ _ _ _ _ _ _ _ c.label_vertex-m.ensures in
    let rest = relabel_le _ _ _ _ _ _ _ _ _ _ _ _ c.relabel_chain-rest.ensures in
    omega (arith, x, y, rest, c.ranges.fuel.fits)

pub returns : goal.returns
returns c =
    join_law _ _ _ _ _ _ _ _ _ _ _ _ _ _ _ _ _ _ _ _ _ _ _ _ _ _
    c.leave_leaf-kept.ensures c.leave_leaf-other.ensures
    c.rises-up.ensures c.label_of.ensures c.next_label-lx.ensures c.next_label-ly.ensures
    c.label_vertex-n.ensures c.label_vertex-m.ensures c.next_label-lz.ensures
    c.relabel_chain-rest.ensures
