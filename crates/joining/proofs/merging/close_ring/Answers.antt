use Rattle.joining.proofs.Merges.{closes_begun, closes_on}
use Rattle.joining.proofs.merging.close_ring.Goals as goal

pub returns-then-first-b : goal.returns-then-first-b
returns-then-first-b c =
    closes_begun _ _ _ _ _ _ _ _ _ _ _ _ _ _ _ _ c.if-first-b.true c.one_more16-k.ensures c.begin_chain.ensures c.closing.ensures

pub returns : goal.returns
returns c =
    closes_on _ _ _ _ _ _ _ _ _ _ _ _ _ _ _ _ _ c.if-first-b.false c.label_beyond.ensures c.label_beyond-2.ensures c.closing-2.ensures
