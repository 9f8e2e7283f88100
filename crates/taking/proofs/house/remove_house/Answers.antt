use Rattle.licence.proofs.PartLaws.{part_left}
use Rattle.taking.proofs.CountLaws.{heads_on}
use Rattle.taking.proofs.house.remove_house.Goals as goal

pub returns-clause-steps : goal.returns-clause-steps
returns-clause-steps c =
    λ limit. part_left c.args.h _ _ _ _ _ _ _ _ _ _ _ _ _ _ _ _ _ _ _ _ limit _ _ _ c.removals_of.ensures c.head_of.ensures (heads_on _ _ _ _ _ c.count_removal-counted.ensures.0 c.with_head.ensures.0) (c.remove_own-own.ensures.steps limit)
