use Rattle.looking.proofs.LookingLaws.{through}
use Rattle.looking.proofs.through.look_through.Goals as goal

pub returns : goal.returns
returns c = through _ _ _ _ _ _ _ _ _ _ _ _ _ c.edge_towards-on.ensures c.edge_towards-back.ensures c.look_along-walked.ensures c.told.ensures
