use Rattle.licence.proofs.PassLaws.{own_edges, own_grown, own_none}
use native.Mathlib.Omega.{arith}
use Rattle.licence.proofs.gate.own_reserve.Goals as goal

pub returns-then-house-gt7 : goal.returns-then-house-gt7
returns-then-house-gt7 c = (own_none _ _ _ _ c.if-house-gt7.true, omega arith)

pub returns-then-grows : goal.returns-then-grows
returns-then-grows c = (own_grown _ _ _ _ _ _ c.if-house-gt7.false c.if-grows.true c.at-share.ensures c.larger.ensures.0, c.larger.ensures.1)

pub returns : goal.returns
returns c =
    (own_edges _ _ _ _ _ _ _ c.if-house-gt7.false c.if-grows.false c.at-share.ensures c.head_of-own.ensures c.larger-2.ensures.0, c.larger-2.ensures.1)
