use mathlib.Core.Path.{◌≡◌}
use Prim.Native.Nat.{◌+◌, ◌-◌, ◌≤◌}
use Rattle.model.specs.Opened.{line_at}
use Rattle.chains.specs.Chains.{rows_in, sheet_in, sweep_in}
use Rattle.fetching.proofs.lines.line_at.Given as goal

-- the line at the place is the one behind as many of those left; at most one chain for each edge so far was passed over
abbrev pub invariant-loop-edge : goal.invariant-loop-edge
invariant-loop-edge l =
    (l.place ≤ l.edge + l.before)
    × (line_at l.before (rows_in l.tables.degrees.now l.tables.sides.now l.tables.ends.now l.tables.lengths.now l.tables.volumes.now l.edges
    (sweep_in l.tables.degrees.now l.tables.sides.now l.tables.ends.now l.edges (l.edges - l.edge) l.marks l.edge))
    ≡ line_at l.place (sheet_in l.tables.degrees.now l.tables.sides.now l.tables.ends.now l.tables.lengths.now l.tables.volumes.now l.edges l.initial.marks))
