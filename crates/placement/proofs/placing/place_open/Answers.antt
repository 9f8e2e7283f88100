use Rattle.placement.proofs.Places.{open_nothing, open_leaf}
use Rattle.placement.proofs.placing.place_open.Goals as goal

pub returns-in-None : goal.returns-in-None
returns-in-None c =
    open_nothing _ _ _ _ _ _ _ _ _ _ _ _ _ _ _ _ _ c.in-None.is c.open_both-c.ensures

pub returns-in-Some : goal.returns-in-Some
returns-in-Some c =
    open_leaf _ _ _ _ _ _ _ _ _ _ _ _ _ _ _ _ _ _ _ _ _ _ _ _ c.in-Some.is c.open_both-c.ensures c.extend_chain-k.ensures c.new.ensures
