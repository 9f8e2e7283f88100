use mathlib.Core.Path.{refl}
use Rattle.heads.specs.Meaning.{as_heads}
use Rattle.heads.proofs.HeadLaws.{counts_put}
use Rattle.heads.proofs.heads.with_removals.Goals as goal

pub returns : goal.returns
unfolding as_heads
returns c = (
  refl,
  counts_put _ _ _ _ _ _ _ _ _ _ _ c.removals_or.ensures c.removals_or-2.ensures c.removals_or-3.ensures c.removals_or-4.ensures c.removals_or-5.ensures c.removals_or-6.ensures c.removals_or-7.ensures c.removals_or-8.ensures,
)
