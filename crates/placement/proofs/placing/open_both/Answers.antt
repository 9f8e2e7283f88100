use Rattle.placement.proofs.Places.{opened_law}
use Rattle.placement.proofs.placing.open_both.Goals as goal

pub returns : goal.returns
returns c =
    opened_law _ _ _ _ _ _ _ _ _ _ _ _ _ _ _ _ _ _ c.split_ends-c.ensures c.meet_end.ensures c.meet_end-2.ensures c.raise_both.ensures
