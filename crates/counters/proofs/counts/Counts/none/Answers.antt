use mathlib.Core.Path.{refl}
use Rattle.model.specs.Tables.{no_counts}
use Rattle.counters.proofs.counts.Counts.none.Goals as goal

pub returns : goal.returns
unfolding no_counts
returns c = refl
