use Rattle.relaxing.specs.Distances.{Keeps}
use Rattle.model.specs.Basics.{sum}
use Rattle.relaxing.proofs.relax.settle.Given as goal

-- the distances stay grounded; a round with a change makes their sum less
abbrev pub invariant-loop-edges : goal.invariant-loop-edges
invariant-loop-edges l = Keeps l.ends l.lengths l.edges l.initial.distances l.distances

abbrev pub decreases-loop-edges : goal.decreases-loop-edges
decreases-loop-edges l = sum l.distances
