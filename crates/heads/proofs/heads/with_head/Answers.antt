use mathlib.Core.Path.{refl}
use Rattle.heads.specs.Meaning.{as_removals}
use Rattle.heads.proofs.HeadLaws.{heads_put}
use Rattle.heads.proofs.heads.with_head.Goals as goal

pub returns : goal.returns
unfolding as_removals
returns c = (
  heads_put _ _ _ _ _ _ _ _ _ _ _ _ c.head_or.ensures c.head_or-2.ensures c.head_or-3.ensures c.head_or-4.ensures c.head_or-5.ensures c.head_or-6.ensures c.head_or-7.ensures c.head_or-8.ensures,
  refl,
)
