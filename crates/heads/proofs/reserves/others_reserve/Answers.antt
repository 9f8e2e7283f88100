use native.Mathlib.Omega.{arith}
use Rattle.heads.proofs.ReserveLaws.{sum_all, sum_on}
use Rattle.heads.proofs.reserves.others_reserve.Goals as goal

pub loop-h-preserved : goal.loop-h-preserved
loop-h-preserved c =
    let inv = c.loop-h.invariant in (
      omega (arith, inv.0, c.kept_by-sum.ensures.1),
      sum_on _ _ _ _ _ _ c.requires c.loop-h-test.true c.kept_by-sum.ensures.0 inv.1,
    )

pub returns : goal.returns
returns c =
    let inv = c.loop-h.invariant in
    (sum_all _ _ _ _ _ c.requires c.loop-h-test.false inv.1, omega (arith, inv.0))
