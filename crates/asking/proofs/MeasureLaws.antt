-- From the gate to the search and back: what an open gate shows of the lent tables, and that the outcome is the call's.
use mathlib.Core.Path.{◌≡◌, ap, ◌∙◌}
use Prim.Native.Nat.{ℕ, ◌≤◌}
use native.Mathlib.Omega.{arith}
use mathlib.Core.List.{[]}
use mathlib.Core.Option.{none}
use lib.ListN.{length, length-replicate}
use Rattle.model.specs.Basics.{max_vertices}
use Rattle.model.specs.Queries.{Reply}
use Rattle.model.specs.Tables.{Counts, Tables, cleared}
use Rattle.model.specs.Calls.{measuring}
use Rattle.nursery.specs.Calls.{measures}
use Rattle.admission.specs.Own.{house_of, own_step, scratch_after}
use Rattle.tables.specs.Steps.{zeroed}
use Rattle.admission.specs.Lent.{lent, outcome}
use Rattle.admission.specs.Gate.{barred}
use Rattle.admission.proofs.SizeLaws.{zeroed_cleared}
use Rattle.admission.proofs.GateLaws.{open_cleared, opened, query_answered}
use Rattle.questions.specs.Measure.{Measurable, measure_in}
use Rattle.questions.proofs.Searchable.{measurable}
use Rattle.questions.proofs.Measuring.{measure_answers}
use Rattle.theory.proofs.Registers.Kept.{cleared_fits}

module _ (t : Tables) (c : Counts) (s s' : Tables) (h : none ≡ barred (lent t c s)) (e : s' ≡ scratch_after (lent t c s)) where
  scratch_is : s' ≡ cleared
  scratch_is = open_cleared (lent t c s) s' h e

  -- what the search asks
  pub open_measurable : Measurable t.ends t.lengths c × (max_vertices ≤ length s'.lengths)
  unfolding cleared
  open_measurable =
      let z : length s'.lengths ≡ max_vertices = ap (λ (x : Tables). length x.lengths) scratch_is ∙ length-replicate {A = ℕ} max_vertices 0 in
      (measurable (opened (lent t c s) h).is, omega arith)

  -- the search was made
  pub open_answers : (limit removals v w : ℕ) (s'' : Tables) (a : Reply) → s'' ≡ zeroed s' → a ≡ measure_in t c v w
      → outcome t c s'' [] a ≡ own_step limit removals (measures v w) (lent t c s)
  open_answers limit removals v w s'' a z q = query_answered limit removals (measuring v w) (lent t c s) s'' [] a h (z ∙ again ∙ e) (λ r k. measure_answers t c v w a q (house_of limit removals r) k)
    where
      again : zeroed s' ≡ s'
      again = rw scratch_is (zeroed_cleared cleared cleared_fits)
