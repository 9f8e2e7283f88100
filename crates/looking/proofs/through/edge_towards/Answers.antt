use Rattle.looking.proofs.LookingLaws.{towards_down, towards_up}
use Rattle.looking.proofs.through.edge_towards.Goals as goal

pub returns-then-up : goal.returns-then-up
returns-then-up c = towards_up _ _ _ _ c.if-up.true c.high_edge.ensures

pub returns-else-up : goal.returns-else-up
returns-else-up c = towards_down _ _ _ _ c.if-up.false c.low_edge.ensures
