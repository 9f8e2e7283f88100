use Rattle.placement.proofs.planning.place_edge.Goals as goal

pub returns-in-Merge : goal.returns-in-Merge
returns-in-Merge c =
    rw c.in-Merge.is c.place_merged.ensures

pub returns-in-Open : goal.returns-in-Open
returns-in-Open c =
    rw c.in-Open.is c.place_open.ensures
