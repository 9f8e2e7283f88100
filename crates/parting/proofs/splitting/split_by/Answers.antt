use Rattle.parting.proofs.Splits.{by_none, by_ring, by_shared}
use Rattle.parting.proofs.splitting.split_by.Goals as goal

pub returns-in-NoRing : goal.returns-in-NoRing
returns-in-NoRing c =
    by_none _ _ _ _ _ _ _ _ _ _ _ _ _ c.in-NoRing.is c.bare_vertex.ensures c.new.ensures

pub returns-in-Ring : goal.returns-in-Ring
returns-in-Ring c =
    by_ring _ _ _ _ _ _ _ _ _ _ _ _ _ _ _ _ c.in-Ring.is c.one_more16-k.ensures c.tap_ring-n.ensures c.new-in-Ring.ensures

pub returns-in-Shared : goal.returns-in-Shared
returns-in-Shared c =
    by_shared _ _ _ _ _ _ _ _ _ _ _ _ _ _ _ _ _ c.in-Shared.is c.put_label.ensures c.one_more16-k-in-Shared.ensures c.tap_ring-n-in-Shared.ensures c.new-in-Shared.ensures
