use Rattle.joining.proofs.Merges.{begin_law}
use Rattle.joining.proofs.merging.begin_chain.Goals as goal

pub returns : goal.returns
returns c =
    begin_law _ _ _ _ _ _ _ _ _ _ _ _ _ _ _ _ c.ranges.k.fits c.base-low.ensures c.label_vertex.ensures c.next_label.ensures
    c.label_vertex-2.ensures
