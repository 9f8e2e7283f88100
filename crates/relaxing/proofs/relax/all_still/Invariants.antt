use Prim.Native.Nat.{ℕ, ◌<◌}
use Rattle.relaxing.specs.Distances.{Still}
use Rattle.relaxing.proofs.relax.all_still.Given as goal

-- the edges below e lower nothing
abbrev pub invariant-loop-e : goal.invariant-loop-e
invariant-loop-e l = (k : ℕ) → k < l.e → Still l.ends l.lengths l.distances l.best k
