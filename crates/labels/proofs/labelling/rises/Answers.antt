use Rattle.labels.proofs.labelling.rises.Goals as goal

pub returns : goal.returns
returns c = rw c.low_edge.ensures
