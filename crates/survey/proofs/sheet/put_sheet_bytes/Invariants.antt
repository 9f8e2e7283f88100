use mathlib.Core.Path.{◌≡◌}
use Prim.Native.Nat.{◌+◌, ◌-◌}
use lib.ListN.{length}
use Rattle.model.specs.FromC.{bytes_of}
use Rattle.model.specs.Queries.{concat}
use Rattle.text.specs.Pages.{page, write}
use Rattle.chains.specs.Chains.{names_in, rows_in, sheet_in, sweep_in}
use Rattle.survey.proofs.sheet.put_sheet_bytes.Given as goal

-- the chains so far and those from here on are all, and the rows from here on end the page as all do
abbrev pub invariant-loop-edge : goal.invariant-loop-edge
invariant-loop-edge l =
    (l.count + length (sweep_in l.degrees l.sides l.ends l.edges (l.edges - l.edge) l.marks l.edge)
    ≡ length (names_in l.degrees l.sides l.ends l.edges l.initial.marks))
    × (write (bytes_of (concat (rows_in l.degrees l.sides l.ends l.lengths l.volumes l.edges
    (sweep_in l.degrees l.sides l.ends l.edges (l.edges - l.edge) l.marks l.edge)))) (page l.out l.next)
    ≡ write (bytes_of (concat (sheet_in l.degrees l.sides l.ends l.lengths l.volumes l.edges l.initial.marks))) (page l.initial.out 0))
