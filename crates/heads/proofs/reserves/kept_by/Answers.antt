use Rattle.heads.proofs.ReserveLaws.{kept_other}
use Rattle.heads.proofs.reserves.kept_by.Goals as goal

pub returns : goal.returns
returns c =
    let pre = c.requires in (
      kept_other _ _ _ _ _ _ _ pre.1 pre.0 c.if-h-house.false c.at.ensures c.head_of-own.ensures c.larger.ensures.0,
      c.larger.ensures.1,
    )
