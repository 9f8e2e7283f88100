-- A list landed on the tables, record by record, as functions that mirror the code. What an edge does is a parameter: `landing` hangs labels,
-- `recording` writes the edge down and hangs none.
use Rattle.std.specs.Prelude.{ℕ, zero, suc, ◌+◌, Bool, List, length, ltb}
use Rattle.model.specs.Graph.{Edge}
use Rattle.model.specs.Format.{Stop, whole, stopped}
use Rattle.model.specs.Tables.{Tables, Counts}
use Rattle.insertion.specs.Insertion.{AnswerIn, LandingIn, done, refused_in, land_in, land_vertex_in}
use Rattle.list.specs.Reading.{Place, good, RecordAt, ends, vertex_to, edge_to, bad_header, bad_record, header_at, record_at}

-- what stands behind a record: the end of the list; the counts, whether a ring may stand, and the next place; or the record's refusal
pub data StepIn : Type 0 where
  ended : StepIn
  went_on : Counts → Bool → Place → StepIn
  stopped_in : ℕ → StepIn

-- what a record leaves in the tables, and its step
pub record SteppedIn : Type 0 where
  pub tables : Tables
  pub step : StepIn

abbrev pub stepped_in : Tables → StepIn → SteppedIn
stepped_in t s = record { tables = t; step = s }

abbrev pub step_of : Place → AnswerIn → StepIn
step_of p (done c rings) = went_on c rings p
step_of p (refused_in x) = stopped_in x

-- what an edge does to the tables, by the counts, within a limit on the register's edges; a ring may stand or not
abbrev pub EdgeLanding : Type 0
EdgeLanding = Tables → Counts → ℕ → Bool → Edge → LandingIn

-- one record on the tables; p is the place behind it
unfoldable pub land_record_by : EdgeLanding → Tables → Counts → ℕ → Bool → RecordAt → SteppedIn
land_record_by land t c limit rings ends = stepped_in t ended
land_record_by land t c limit rings (vertex_to p) = stepped_in t (step_of p (land_vertex_in c rings))
land_record_by land t c limit rings (edge_to e p) = let l = land t c limit rings e in stepped_in l.tables (step_of p l.answer)
land_record_by land t c limit rings (bad_record x) = stepped_in t (stopped_in x)

-- the tables and counts that a list leaves, and how far it was landed
pub record ReadingIn : Type 0 where
  pub tables : Tables
  pub counts : Counts
  pub stop : Stop

abbrev pub reading_in : Tables → Counts → Stop → ReadingIn
reading_in t c s = record { tables = t; counts = c; stop = s }

-- the records from number k on, which stands at place p; at most n; rings: a ring may stand
unfoldable pub land_records_by : EdgeLanding → List ℕ → ℕ → ℕ → Tables → Counts → ℕ → Bool → Place → ReadingIn
land_records_by land bs zero k t c limit rings p = reading_in t c whole
land_records_by land bs (suc n) k t c limit rings p =
    let s = land_record_by land t c limit rings (record_at bs p) in
    elim s.step [
      | ended ↦ reading_in s.tables c whole
      | went_on c' rings' p' ↦ land_records_by land bs n (k + 1) s.tables c' limit rings' p'
      | stopped_in x ↦ reading_in s.tables c (stopped k x)
    ]

-- a whole list; without edges no ring stands
unfoldable pub land_list_by : EdgeLanding → Tables → Counts → ℕ → List ℕ → ReadingIn
land_list_by land t c limit bs =
    elim (header_at bs) [
      | good p ↦ land_records_by land bs (length bs) 0 t c limit (ltb 0 c.edges) p
      | bad_header x ↦ reading_in t c (stopped 0 x)
    ]

-- ---- with labels: what lands a list in a register

abbrev pub land_record_in : Tables → Counts → ℕ → Bool → RecordAt → SteppedIn
land_record_in = land_record_by land_in

abbrev pub land_records_in : List ℕ → ℕ → ℕ → Tables → Counts → ℕ → Bool → Place → ReadingIn
land_records_in = land_records_by land_in

abbrev pub land_list_in : Tables → Counts → ℕ → List ℕ → ReadingIn
land_list_in = land_list_by land_in
