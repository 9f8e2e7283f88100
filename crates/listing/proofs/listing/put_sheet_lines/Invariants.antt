use mathlib.Core.Path.{◌≡◌}
use Prim.Native.Nat.{◌+◌, ◌-◌, ◌*◌, ◌≤◌}
use Rattle.model.specs.Printing.{row_lines}
use Rattle.text.specs.Pages.{page, write}
use Rattle.chains.specs.Chains.{rows_in, sheet_in, sweep_in}
use Rattle.listing.specs.Listing.{row_bytes}
use Rattle.listing.proofs.listing.put_sheet_lines.Given as goal

-- the lines of the chains from here on end the page as all do, and there is at most one line for each edge so far
abbrev pub invariant-loop-edge : goal.invariant-loop-edge
invariant-loop-edge l =
    (l.next ≤ l.at + row_bytes * l.edge)
    × (write (row_lines (rows_in l.degrees l.sides l.ends l.lengths l.volumes l.edges
    (sweep_in l.degrees l.sides l.ends l.edges (l.edges - l.edge) l.marks l.edge))) (page l.out l.next)
    ≡ write (row_lines (sheet_in l.degrees l.sides l.ends l.lengths l.volumes l.edges l.initial.marks)) (page l.initial.out l.at))
