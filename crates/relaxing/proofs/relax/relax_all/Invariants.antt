use Rattle.relaxing.proofs.Rounds.{SoFar}
use Rattle.relaxing.proofs.relax.relax_all.Given as goal

-- the edges below e are tried
abbrev pub invariant-loop-e : goal.invariant-loop-e
invariant-loop-e l = SoFar l.ends l.lengths l.edges l.initial.distances l.distances l.best l.changes l.e
