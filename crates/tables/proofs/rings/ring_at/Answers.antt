use Rattle.tables.proofs.Rounds.{ring_law}
use Rattle.tables.proofs.rings.ring_at.Goals as goal

pub returns : goal.returns
returns c = ring_law _ _ _ _ _ _ _ _ _ _ _ c.leave_lower-lower.ensures c.step_over-higher.ensures c.walk_round.ensures
