use Rattle.search.proofs.Answers.{started, answers}
use Rattle.search.proofs.shortest.search.Goals as goal

pub returns : goal.returns
returns c =
    let pre = c.requires in
    let g = started _ _ _ _ _ pre.0 pre.1.1.1 c.start.auto.distances c.start.ensures in
    answers _ _ _ _ _ _ _ _ c.answer_of.result pre.1.0 pre.1.1.0 (c.dijkstra.ensures.grounded _ g) c.settle.ensures c.of.ensures c.answer_of.ensures
