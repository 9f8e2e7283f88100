use Prim.Native.Nat.{◌-◌}
use mathlib.Core.Path.{◌≡◌}
use lib.ListN.{replicate}
use Rattle.text.specs.Pages.{page, write}
use Rattle.text.proofs.records.put_vertices.Given as goal

-- those left end the page as all do
abbrev pub invariant-loop : goal.invariant-loop
invariant-loop l = write (replicate (l.n - l.counter) 0x46) (page l.out l.next) ≡ write (replicate l.n 0x46) (page l.initial.out l.at)
