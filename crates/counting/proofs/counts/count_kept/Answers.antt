use Rattle.counting.proofs.Laws.{chain_count}
use Rattle.counting.proofs.counts.count_kept.Goals as goal

pub returns-in-None : goal.returns-in-None
returns-in-None c = rw c.in-None.is

pub returns-in-Some : goal.returns-in-Some
returns-in-Some c = chain_count _ _ _ _ _ _ _ _ _ c.in-Some.is c.count_joined.ensures
