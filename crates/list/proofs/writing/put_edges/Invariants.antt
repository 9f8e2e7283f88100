use Prim.Native.Nat.{◌-◌}
use mathlib.Core.Path.{◌≡◌}
use Rattle.model.specs.Basics.{count_from, up_to}
use Rattle.text.specs.Pages.{page, write}
use Rattle.list.specs.Writing.{records_in}
use Rattle.list.proofs.writing.put_edges.Given as goal

-- the edges left end the page as all do
abbrev pub invariant-loop-edge : goal.invariant-loop-edge
invariant-loop-edge l =
    write (records_in l.ends l.lengths l.volumes (count_from l.edge (l.edges - l.edge))) (page l.out l.next)
    ≡ write (records_in l.ends l.lengths l.volumes (up_to l.edges)) (page l.initial.out l.at)
