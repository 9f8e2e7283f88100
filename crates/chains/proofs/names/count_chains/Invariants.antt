use mathlib.Core.Path.{◌≡◌}
use Prim.Native.Nat.{◌+◌, ◌-◌}
use lib.ListN.{length}
use Rattle.chains.specs.Chains.{names_in, sweep_in}
use Rattle.chains.proofs.names.count_chains.Given as goal

-- the chains so far and those from here on are all
abbrev pub invariant-loop-edge : goal.invariant-loop-edge
invariant-loop-edge l =
    l.count + length (sweep_in l.degrees l.sides l.ends l.edges (l.edges - l.edge) l.marks l.edge)
    ≡ length (names_in l.degrees l.sides l.ends l.edges l.initial.marks)
