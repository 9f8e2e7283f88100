use Rattle.confirming.proofs.FirstRounds.{first_round}
use Rattle.search.proofs.Answers.{started}
use Rattle.confirming.proofs.confirming_changes.Goals as goal

pub dijkstra-requires : goal.dijkstra-requires
dijkstra-requires c =
    let pre = c.requires in
    (started _ _ _ _ _ pre.0 pre.1.1.1 c.start.auto.distances c.start.ensures).bounded

pub relax_all-requires : goal.relax_all-requires
relax_all-requires c =
    c.dijkstra.ensures.bounded

pub returns : goal.returns
returns c =
    let pre = c.requires in
    let g = started _ _ _ _ _ pre.0 pre.1.1.1 c.start.auto.distances c.start.ensures in
    first_round _ _ _ _ _ c.dijkstra.new.distances _ _ _ (c.dijkstra.ensures.grounded _ g) c.of-best.ensures c.relax_all.ensures
