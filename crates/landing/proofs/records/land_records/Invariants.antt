use mathlib.Core.Path.{◌≡◌}
use Prim.Native.Nat.{◌-◌}
use lib.ListN.{length}
use Rattle.counters.specs.Answers.{counts}
use Rattle.lent.specs.Lent.{of_lent, SameLent}
use Rattle.list.specs.Reading.{as_place}
use Rattle.landing.specs.Records.{land_records_in}
use Rattle.landing.proofs.records.land_records.Given as goal

-- what is left to land is the whole
abbrev pub invariant-loop-number : goal.invariant-loop-number
invariant-loop-number l =
    SameLent l.register l.initial.register
    × (land_records_in l.list (length l.list - l.number) l.number (of_lent l.register) (counts l.vertices l.edges l.blocks l.relabellings) l.limit l.rings (as_place l.at)
    ≡ land_records_in l.list (length l.list) 0 (of_lent l.initial.register) (counts l.initial.vertices l.initial.edges l.initial.blocks l.initial.relabellings) l.limit l.initial.rings (as_place l.initial.at))
