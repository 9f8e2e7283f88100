-- What stands in a list's bytes, by index, said with the definitions of model's Format; and what the enums of this crate mean.
use Rattle.std.specs.Prelude.{ℕ, ◌+◌, List, [], ◌∷◌, drop, Result, Ok, Err}
use Rattle.std.proofs.Math.Option.{none, some}
use Rattle.model.specs.Graph.{Edge}
use Rattle.model.specs.Format.{vertex, edge, bad, edge_body, first_record, header_refusal, version_of}
use Rattle.counters.specs.Refusals.{number_of}
use Rattle.list.specs.declared.records.Cursor.{Cursor}
use Rattle.counters.specs.declared.refusals.Refusal.{Refusal}
use Rattle.list.specs.declared.records.Record.{Record}
use Rattle.list.specs.declared.records.Record.TheVariants as record'

-- where reading goes on: the index of the next byte, and the list's version
pub record Place : Type 0 where
  pub at : ℕ
  pub version : ℕ

abbrev pub place : ℕ → ℕ → Place
place i version = record { at = i; version = version }

abbrev pub as_place : Cursor → Place
as_place c = place c.at c.version

-- the place behind the header, or its refusal
pub data HeaderAt : Type 0 where
  good : Place → HeaderAt
  bad_header : ℕ → HeaderAt

unfoldable pub header_at : List ℕ → HeaderAt
header_at bs = elim (header_refusal bs) [ some x ↦ bad_header x | none ↦ good (place 5 (version_of bs)) ]

-- a record with the place behind it, the end of the list, or a refusal
pub data RecordAt : Type 0 where
  ends : RecordAt
  vertex_to : Place → RecordAt
  edge_to : Edge → Place → RecordAt
  bad_record : ℕ → RecordAt

unfoldable pub record_of : Place → List ℕ → RecordAt
record_of p [] = ends
record_of p (kind ∷ bs) =
    elim (first_record p.version kind bs) [
      | vertex rest ↦ vertex_to (place (p.at + 1) p.version)
      | edge e rest ↦ edge_to e (place (p.at + 1 + edge_body p.version) p.version)
      | bad x ↦ bad_record x
    ]

-- the record at a place
unfoldable pub record_at : List ℕ → Place → RecordAt
record_at bs p = record_of p (drop p.at bs)

abbrev pub as_header : Result Cursor Refusal → HeaderAt
as_header (Ok c) = good (as_place c)
as_header (Err x) = bad_header (number_of x)

abbrev pub as_record : Record → RecordAt
as_record record'.End = ends
as_record (record'.Vertex c) = vertex_to (as_place c)
as_record (record'.Edge a b len volume c) = edge_to (record { first = a; second = b; len = len; volume = volume }) (as_place c)
as_record (record'.Refused x) = bad_record (number_of x)
