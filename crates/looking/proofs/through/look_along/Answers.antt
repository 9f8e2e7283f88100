use Rattle.looking.proofs.LookingLaws.{along_law}
use Rattle.looking.proofs.through.look_along.Goals as goal

pub returns : goal.returns
returns c = along_law _ _ _ _ _ _ _ _ _ _ _ _ _ c.with_edge-known.ensures c.far_end-from.ensures c.look_onwards.ensures
