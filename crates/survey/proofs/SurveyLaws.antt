-- What is worked out over the tables that a list was recorded in is what the definitions answer of its register.
use Rattle.std.specs.Prelude.{if◌then◌else◌}
use mathlib.Core.Path.{◌≡◌, refl, sym, ap, ◌∙◌, subst}
use Prim.Native.Nat.{ℕ}
use native.Mathlib.Omega.{arith}
use mathlib.Core.Bool.{Bool, true, false, not, ◌&&◌}
use mathlib.Core.List.{List}
use lib.ListN.{replicate}
use lib.Dec.{ltb}
use Rattle.model.specs.Basics.{max_edges}
use Rattle.model.specs.Register.{Register, empty}
use Rattle.model.specs.Format.{Stop, grow_list}
use Rattle.model.specs.FromC.{returns_numbers, returns_reply}
use Rattle.model.specs.Distance.{distance}
use Rattle.model.specs.Queries.{concat, measure, measured, refuses, sheet, sheet_numbers}
use Rattle.model.specs.Tables.{Counts, Tables, cleared, counts_of, no_counts, stored_edge, stored_edges, stored_of, tables_of}
use Rattle.model.specs.Notions.{HeldOf, Reachable}
use Rattle.theory.proofs.Series.Landings.{reachable_grown}
use Rattle.tables.specs.Meaning.{stored}
use Rattle.chains.specs.Chains.{sheet_in}
use Rattle.agreement.proofs.Turning.{sheet_turns}
use Rattle.landing.specs.Records.{ReadingIn, land_list_by, reading_in}
use Rattle.landing.proofs.Following.{Together}
use Rattle.questions.specs.Measure.{Measurable, measure_in}
use Rattle.questions.proofs.Measuring.{measure_agrees}
use Rattle.questions.proofs.Searchable.{measurable}
use Rattle.recording.specs.Unlabelled.{unlabelled_in}
use Rattle.recording.proofs.Recorded.{Recorded, list_recorded, recorded_turns, unlabelled}
use Rattle.survey.specs.Surveys.{as_survey, survey_in}
use Rattle.survey.specs.declared.recorded.Survey.{Survey}
use Rattle.survey.specs.declared.recorded.Survey.TheVariants.{Sheet, Distance}

-- a distance, or 5, is returned alike in every register
same_return : (s r : Register) (slice : List ℕ) (v w : ℕ) → returns_reply s slice (measure r v w) ≡ returns_reply r slice (measure r v w)
unfolding measure returns_reply
same_return s r slice v w = go (not (ltb v r.vertices && ltb w r.vertices))
  where
    go : (b : Bool) → let a = if b then refuses 5 else measured (distance r.edges v w) in returns_reply s slice a ≡ returns_reply r slice a
    go true = refl
    go false = refl

-- ---- over what was recorded of a register

module _ (r : Register) (rings : Bool) (t : Tables) (c : Counts) (g : Reachable r) (k : Recorded r rings t c) where
  -- it can be searched for a distance
  recorded_measurable : Measurable t.ends t.lengths c
  unfolding stored_of
  recorded_measurable =
      let own : HeldOf (stored (tables_of r) (counts_of r)) r = record { reachable = g; stored_is = refl } in
      rw (k.ends_same, k.lengths_same, k.edges_same, k.vertices_same) (measurable own)

  recorded_sheet : sheet_in t.degrees t.sides t.ends t.lengths t.volumes c.edges (replicate max_edges 0) ≡ sheet r
  recorded_sheet =
      rw (k.degrees_same, k.ends_same, k.lengths_same, k.volumes_same, k.edges_same) (sheet_turns r g t.sides (recorded_turns r rings t c g k) max_edges (omega arith))

  recorded_distance : (v w : ℕ) → measure_in t c v w ≡ measure r v w
  unfolding measure_in stored_edges stored_edge
  recorded_distance v w = rw (k.ends_same, k.lengths_same, k.volumes_same, k.edges_same, k.vertices_same) (measure_agrees r v w)

  recorded_answers : (survey : Survey) (slice : List ℕ) → survey_in survey t c slice ≡ returns_reply r slice (as_survey survey r)
  unfolding returns_reply sheet_numbers
  recorded_answers Sheet slice = ap (λ (rows : List (List ℕ)). returns_numbers slice (concat rows)) recorded_sheet
  recorded_answers (Distance v w) slice = ap (returns_reply empty slice) (recorded_distance v w) ∙ same_return empty r slice v w

-- ---- what the recording of a list says of it

module _ (bs : List ℕ) (t : Tables) (c : Counts) (s : Stop) (e : reading_in t c s ≡ land_list_by unlabelled_in (unlabelled cleared) no_counts max_edges bs) where
  both : Together Recorded (reading_in t c s) (grow_list bs)
  both = subst (λ (d : ReadingIn). Together Recorded d (grow_list bs)) (sym e) (list_recorded bs)

  -- it stops as the definition says; its tables can be searched, and the answer over them is that of the register
  pub recorded_stop : s ≡ (grow_list bs).stop
  recorded_stop = both.stops

  pub survey_measurable : Measurable t.ends t.lengths c
  survey_measurable = recorded_measurable (grow_list bs).register both.rings t c (reachable_grown bs) both.shows

  pub survey_answers : (survey : Survey) (slice : List ℕ) → survey_in survey t c slice ≡ returns_reply (grow_list bs).register slice (as_survey survey (grow_list bs).register)
  survey_answers survey slice = recorded_answers (grow_list bs).register both.rings t c (reachable_grown bs) both.shows survey slice
