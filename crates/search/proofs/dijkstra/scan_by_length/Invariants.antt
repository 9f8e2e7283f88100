use Rattle.relaxing.specs.Distances.{Keeps}
use Rattle.search.proofs.dijkstra.scan_by_length.Given as goal

-- the distances stay grounded
abbrev pub invariant-loop-low : goal.invariant-loop-low
invariant-loop-low l = Keeps l.ends l.lengths l.edges l.initial.distances l.distances
