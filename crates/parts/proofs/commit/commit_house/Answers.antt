use mathlib.Core.Path.{refl}
use Rattle.licence.proofs.PartLaws.{part_left}
use Rattle.parts.proofs.commit.commit_house.Goals as goal

pub returns-clause-steps : goal.returns-clause-steps
returns-clause-steps c =
    λ removals. part_left c.args.h _ _ _ _ _ _ _ _ _ _ _ _ _ _ _ _ _ _ _ _ _ removals _ _ refl c.head_of.ensures c.with_head.ensures.0 (c.commit_own-own.ensures.steps removals)
