use Rattle.parting.proofs.Splits.{tap_law}
use Rattle.parting.proofs.splitting.tap_ring.Goals as goal

pub returns : goal.returns
returns c =
    tap_law _ _ _ _ _ _ _ _ _ _ _ _ _ _ _ c.leave_lower-from.ensures c.base.ensures c.relabel_chain-n.ensures c.bare_vertex.ensures
