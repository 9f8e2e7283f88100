-- The ways out of landing one record, and a turn of the loop over records.
use mathlib.Core.Path.{◌≡◌, refl, ap}
use Prim.Native.Nat.{ℕ, zero, suc, ◌+◌, ◌-◌, ◌≤◌, ◌<◌}
use native.Mathlib.Nat.{not-suc-le-zero}
use native.Mathlib.Omega.{arith}
use mathlib.Core.Bool.{Bool}
use mathlib.Core.List.{List}
use lib.ListN.{length}
use lib.Dec.{ltb}
use Rattle.model.specs.Graph.{Edge}
use Rattle.model.specs.Format.{whole, stopped}
use Rattle.model.specs.Tables.{Tables, Counts}
use Rattle.insertion.specs.Insertion.{AnswerIn, landing_in, land_vertex_in}
use Rattle.list.specs.Reading.{Place, good, bad_header, RecordAt, ends, vertex_to, edge_to, bad_record, header_at, record_at}
use Rattle.landing.specs.Records.{EdgeLanding, StepIn, ended, went_on, stopped_in, SteppedIn, stepped_in, step_of, land_record_by, ReadingIn, reading_in, land_records_by, land_list_by}

-- ---- one record

module _ (land : EdgeLanding) (t : Tables) (c : Counts) (limit : ℕ) (rings : Bool) (d : RecordAt) where
  -- one record: none is left, a vertex, an edge, one that cannot be read
  pub record_ends : ends ≡ d → stepped_in t ended ≡ land_record_by land t c limit rings d
  unfolding land_record_by
  record_ends e = rw (← e)

  pub record_vertex : (p : Place) (a : AnswerIn) (s : StepIn) → vertex_to p ≡ d → a ≡ land_vertex_in c rings → s ≡ step_of p a
      → stepped_in t s ≡ land_record_by land t c limit rings d
  unfolding land_record_by
  record_vertex p a s e f g = rw (← e, ← f, g)

  pub record_edge : (t' : Tables) (e : Edge) (p : Place) (a : AnswerIn) (s : StepIn) → edge_to e p ≡ d
      → landing_in t' a ≡ land t c limit rings e → s ≡ step_of p a → stepped_in t' s ≡ land_record_by land t c limit rings d
  unfolding land_record_by
  record_edge t' e p a s o q g = rw (← o, ← q, g)

  pub record_bad : (x : ℕ) → bad_record x ≡ d → stepped_in t (stopped_in x) ≡ land_record_by land t c limit rings d
  unfolding land_record_by
  record_bad x e = rw (← e)

-- ---- the loop

tables_of_lem : {x y : SteppedIn} → x ≡ y → x.tables ≡ y.tables
tables_of_lem e = ap (λ (s : SteppedIn). s.tables) e

steps_are : {x y : SteppedIn} → x ≡ y → x.step ≡ y.step
steps_are e = ap (λ (s : SteppedIn). s.step) e

module _ (land : EdgeLanding) (bs : List ℕ) (limit : ℕ) where
  -- nothing left to read; the list's end; a stop; a record that lands, and on
  pub records_none : (n k : ℕ) (t : Tables) (c : Counts) (rings : Bool) (p : Place) → n ≤ 0 → reading_in t c whole ≡ land_records_by land bs n k t c limit rings p
  unfolding land_records_by
  records_none zero k t c rings p h = refl
  records_none (suc n) k t c rings p h = absurd (not-suc-le-zero h)

  pub records_end : (n k : ℕ) (t t' : Tables) (c : Counts) (rings : Bool) (p : Place) → 0 < n → stepped_in t' ended ≡ land_record_by land t c limit rings (record_at bs p)
      → reading_in t' c whole ≡ land_records_by land bs n k t c limit rings p
  unfolding land_records_by
  records_end zero k t t' c rings p h e = absurd (not-suc-le-zero h)
  records_end (suc n) k t t' c rings p h e = rw (← steps_are e, land_records_by, ← tables_of_lem e)

  pub records_stop : (n k : ℕ) (t t' : Tables) (c : Counts) (rings : Bool) (p : Place) (x : ℕ) → 0 < n
      → stepped_in t' (stopped_in x) ≡ land_record_by land t c limit rings (record_at bs p) → reading_in t' c (stopped k x) ≡ land_records_by land bs n k t c limit rings p
  unfolding land_records_by
  records_stop zero k t t' c rings p x h e = absurd (not-suc-le-zero h)
  records_stop (suc n) k t t' c rings p x h e = rw (← steps_are e, land_records_by, ← tables_of_lem e)

  pub records_on : (n i k : ℕ) (t t' : Tables) (c c' : Counts) (rings rings' : Bool) (p p' : Place) → i < n
      → stepped_in t' (went_on c' rings' p') ≡ land_record_by land t c limit rings (record_at bs p)
      → land_records_by land bs (n - i) k t c limit rings p ≡ land_records_by land bs (n - (i + 1)) (k + 1) t' c' limit rings' p'
  unfolding land_records_by
  records_on n i k t t' c c' rings rings' p p' h e =
      let next : n - i ≡ suc (n - (i + 1)) = omega (arith, h) in rw (next, ← steps_are e, land_records_by, ← tables_of_lem e)

-- ---- the header

-- behind a good header the records are landed; a bad one stops at record 0
pub list_records : (land : EdgeLanding) (t : Tables) (c : Counts) (limit : ℕ) (bs : List ℕ) (p : Place) (d : ReadingIn) → good p ≡ header_at bs
    → d ≡ land_records_by land bs (length bs) 0 t c limit (ltb 0 c.edges) p → d ≡ land_list_by land t c limit bs
unfolding land_list_by
list_records land t c limit bs p d e f = rw (← e, land_list_by) f

pub list_bad : (land : EdgeLanding) (t : Tables) (c : Counts) (limit : ℕ) (bs : List ℕ) (x : ℕ) → bad_header x ≡ header_at bs → reading_in t c (stopped 0 x) ≡ land_list_by land t c limit bs
unfolding land_list_by
list_bad land t c limit bs x e = rw (← e, land_list_by)
