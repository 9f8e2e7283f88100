use Rattle.counting.proofs.Laws.{shared_round}
use mathlib.Core.Path.{refl}
use Rattle.counting.proofs.counts.round_count.Goals as goal

pub returns-else-others-eq0 : goal.returns-else-others-eq0
returns-else-others-eq0 c = shared_round _ _ _ c.in-Shared.is refl
