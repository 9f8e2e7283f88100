use Rattle.recording.specs.Unlabelled.{unlabelled_in}
use Rattle.landing.specs.Records.{land_records_by}
use Rattle.list.specs.Reading.{as_place}
use Rattle.tables.specs.Meaning.{tables}
use Rattle.counters.specs.Answers.{as_counts}
use Rattle.model.specs.Basics.{max_edges}
use Rattle.model.specs.Tables.{no_counts}
use mathlib.Core.Bool.{false}
use lib.ListN.{length}
use Prim.Native.Nat.{◌-◌}
use mathlib.Core.List.{[]}
use mathlib.Core.Path.{◌≡◌}
use Rattle.recording.proofs.lists.note_records.Given as goal

-- what is left to land is the whole
abbrev pub invariant-loop-number : goal.invariant-loop-number
invariant-loop-number l =
    land_records_by unlabelled_in l.list (length l.list - l.number) l.number (tables l.degrees l.sides l.ends l.lengths l.volumes []) (as_counts l.counts) max_edges l.rings (as_place l.at)
    ≡ land_records_by unlabelled_in l.list (length l.list) 0 (tables l.initial.degrees l.initial.sides l.initial.ends l.initial.lengths l.initial.volumes []) no_counts max_edges false (as_place l.initial.at)
