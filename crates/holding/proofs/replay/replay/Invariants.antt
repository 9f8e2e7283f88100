use mathlib.Core.Path.{◌≡◌}
use Prim.Native.Nat.{◌-◌}
use Rattle.counters.specs.Answers.{as_counts}
use Rattle.lent.specs.Lent.{of_lent, SameLent}
use Rattle.holding.specs.Replay.{replay_in}
use Rattle.holding.proofs.replay.replay.Given as goal

-- the edges left leave what all leave, on the same tables
abbrev pub invariant-loop-edge : goal.invariant-loop-edge
invariant-loop-edge l =
    SameLent l.tables l.initial.tables
    × (replay_in l.register.ends.now l.register.lengths.now l.register.volumes.now (l.end - l.edge) l.edge (of_lent l.tables) (as_counts l.counts) l.ringed
    ≡ replay_in l.register.ends.now l.register.lengths.now l.register.volumes.now l.number l.first (of_lent l.initial.tables) (as_counts l.initial.counts) l.initial.ringed)
