-- Find and the sheet behind an open gate: the scratch that serves them is left as the gate left it.
use mathlib.Core.Path.{◌≡◌, ap, ◌∙◌}
use Prim.Native.Nat.{ℕ, ◌*◌}
use native.Mathlib.Omega.{arith}
use mathlib.Core.Option.{none}
use mathlib.Core.List.{List, []}
use lib.ListN.{length, replicate, length-replicate}
use Rattle.model.specs.Basics.{max_vertices}
use Rattle.model.specs.Queries.{Reply}
use Rattle.model.specs.Tables.{Tables, Counts, cleared}
use Rattle.model.specs.Calls.{Ask, sheeting}
use Rattle.nursery.specs.Calls.{asks, sheets}
use Rattle.admission.specs.Own.{house_of, own_step, scratch_after}
use Rattle.tables.specs.Meaning.{tables}
use Rattle.admission.specs.Lent.{lent, outcome}
use Rattle.admission.specs.Gate.{barred}
use Rattle.admission.proofs.GateLaws.{open_cleared, query_answered}
use Rattle.questions.specs.Answering.{answered, sheeted_in}
use Rattle.questions.proofs.AnswerLaws.{sheet_answers}
use Rattle.questions.proofs.Answers.{Answers}

-- Find and the sheet over scratch g that the gate left. Its sides served for the order of the search; its degrees and its sides for marks. They are
-- zeros again.
module _ (t : Tables) (c : Counts) (s g : Tables) (h : none ≡ barred (lent t c s)) (e : g ≡ scratch_after (lent t c s)) where
  zeros : g ≡ cleared
  zeros = open_cleared (lent t c s) g h e

  degrees_are : g.degrees ≡ replicate max_vertices 0
  unfolding cleared
  degrees_are = ap (λ (x : Tables). x.degrees) zeros

  sides_are : g.sides ≡ replicate (2 * max_vertices) 0
  unfolding cleared
  sides_are = ap (λ (x : Tables). x.sides) zeros

  again : (xs : List ℕ) (n : ℕ) → xs ≡ replicate n 0 → replicate (length xs) 0 ≡ xs
  again xs n q = rw (q, length-replicate)

  -- by a label or by a vertex
  pub find_answered : (limit removals : ℕ) (q : Ask) (order : List ℕ) (a : Reply) → Answers q t c [] a → order ≡ replicate (length g.sides) 0
      → outcome t c (tables g.degrees order g.ends g.lengths g.volumes g.labels) [] a ≡ own_step limit removals (asks q) (lent t c s)
  find_answered limit removals q order a f n =
      let n' : order ≡ g.sides = n ∙ again g.sides (2 * max_vertices) sides_are in
      let u : tables g.degrees order g.ends g.lengths g.volumes g.labels ≡ g = rw n' in
      query_answered limit removals q (lent t c s) _ [] a h (u ∙ e) (λ r k. f (house_of limit removals r) k)

  -- the sheet leaves and answers what `own_step` says
  pub sheet_answered : (limit removals : ℕ) (counting marks xs ys : List ℕ) (a : Reply) → answered ys a ≡ sheeted_in t c g.degrees g.sides xs
      → counting ≡ replicate (length g.degrees) 0 → marks ≡ replicate (length g.sides) 0
      → outcome t c (tables counting marks g.ends g.lengths g.volumes g.labels) ys a ≡ own_step limit removals (sheets xs) (lent t c s)
  sheet_answered limit removals counting marks xs ys a q m n =
      let m' : counting ≡ g.degrees = m ∙ again g.degrees max_vertices degrees_are in
      let n' : marks ≡ g.sides = n ∙ again g.sides (2 * max_vertices) sides_are in
      let u : tables counting marks g.ends g.lengths g.volumes g.labels ≡ g = rw (m', n') in
      query_answered limit removals (sheeting xs) (lent t c s) _ ys a h (u ∙ e)
      (λ r k. sheet_answers t c max_vertices (2 * max_vertices) g.degrees g.sides xs ys a (omega arith) (omega arith) degrees_are sides_are q (house_of limit removals r) k)
