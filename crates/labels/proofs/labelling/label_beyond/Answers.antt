use Rattle.labels.proofs.Labels.{beyond_law}
use Rattle.labels.proofs.labelling.label_beyond.Goals as goal

pub returns : goal.returns
returns c =
    beyond_law _ _ _ _ _ _ _ _ _ _ _ _ c.rises-up.ensures c.label_of.ensures c.next_label-label.ensures c.label_vertex.ensures
