use mathlib.Core.Path.{◌≡◌}
use Prim.Native.Nat.{◌+◌, ◌-◌}
use lib.ListN.{length}
use Rattle.model.specs.Queries.{concat}
use Rattle.text.specs.Pages.{page, write}
use Rattle.chains.specs.Chains.{names_in, rows_in, sheet_in, sweep_in}
use Rattle.questions.proofs.sheet.put_rows.Given as goal

-- the chains so far and those from here on are all, and the rows from here on end the page as all do
abbrev pub invariant-loop-edge : goal.invariant-loop-edge
invariant-loop-edge l =
    (l.count + length (sweep_in l.register.degrees.now l.register.sides.now l.register.ends.now l.edges (l.edges - l.edge) l.marks l.edge)
    ≡ length (names_in l.register.degrees.now l.register.sides.now l.register.ends.now l.edges l.initial.marks))
    × (write (concat (rows_in l.register.degrees.now l.register.sides.now l.register.ends.now l.register.lengths.now l.register.volumes.now l.edges
    (sweep_in l.register.degrees.now l.register.sides.now l.register.ends.now l.edges (l.edges - l.edge) l.marks l.edge))) (page l.out l.next)
    ≡ write (concat (sheet_in l.register.degrees.now l.register.sides.now l.register.ends.now l.register.lengths.now l.register.volumes.now l.edges l.initial.marks)) (page l.initial.out 0))
