use Rattle.relaxing.specs.Distances.{Keeps}
use Rattle.search.proofs.dijkstra.scan.Given as goal

-- the distances stay grounded
abbrev pub invariant-loop : goal.invariant-loop
invariant-loop l = Keeps l.ends l.lengths l.edges l.initial.distances l.distances
