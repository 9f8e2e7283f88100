use Rattle.placement.proofs.Places.{merged_law}
use Rattle.placement.proofs.placing.place_merged.Goals as goal

pub returns : goal.returns
returns c =
    merged_law _ _ _ _ _ _ _ _ _ _ _ _ _ _ _ c.merge_chains-c.ensures c.raise_both.ensures
