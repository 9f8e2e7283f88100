-- The terms of a quote, and a quote with what its commit does.
use mathlib.Core.Path.{◌≡◌, ap}
use mathlib.Core.Bool.{Bool, true, false}
use mathlib.Core.List.{List}
use Prim.Native.Nat.{ℕ}
use Rattle.model.specs.Graph.{Edge}
use Rattle.model.specs.Cases.{Case}
use Rattle.model.specs.Register.{Terms, offers, case_number}
use Rattle.model.specs.Tables.{Counts}
use Rattle.std.specs.Prelude.{Result, Ok}
use Rattle.counters.specs.declared.refusals.Refusal.{Refusal}
use Rattle.checking.specs.Checks.{check_in}
use Rattle.checking.specs.Meaning.{as_checked}
use Rattle.checking.specs.declared.checks.Checked.{Checked}
use Rattle.counting.specs.Counting.{Estimated, estimated}
use Rattle.counting.proofs.Laws.{merger_counts, rounds_count_lem}
use Rattle.placement.specs.Placing.{work_for}
use Rattle.placement.specs.Planning.{plan_for}
use Rattle.placement.specs.declared.placing.Work.{Work}
use Rattle.placement.specs.declared.placing.Work.TheVariants.{Merge, Open}
use Rattle.placement.specs.declared.planning.Plan.{Plan}
use Rattle.quoting.specs.Quoting.{case_in, offer_in, quote_in, terms_in, work_count_in}
use Rattle.quoting.specs.Counted.{planned_count}
use Rattle.quoting.specs.Intents.{IntentIn, place, intent_for, intent_in}

-- a plan made of the tables counts what is said at once in Quoting
pub planned_counts : (work : Work) (degrees s ends l : List ℕ) (a b n : ℕ) (rings : Bool)
    → planned_count (plan_for work degrees s ends a b n rings) degrees s ends l n ≡ work_count_in work degrees s ends l a b n rings
planned_counts Merge degrees s ends l a b n rings = merger_counts degrees s ends l a b n
planned_counts (Open splits extension) degrees s ends l a b n rings =
    ap (λ (k : ℕ). estimated false k) (rounds_count_lem splits degrees s ends a b n rings)

module _ (case : Case) (n : ℕ) (ring : Bool) where
  -- an offer is of case 7 where a ring would be closed, and else of the case of the edge
  pub terms_ring : ring ≡ true → offers 7 n ≡ offer_in case (estimated ring n)
  unfolding offer_in
  terms_ring h = rw h

  pub terms_case : (q : ℕ) → ring ≡ false → q ≡ case_number case → offers q n ≡ offer_in case (estimated ring n)
  unfolding offer_in
  terms_case q h g = rw (h, g)

-- planned, counted and offered in the case of the edge between a and b
pub offered : (d s ends l : List ℕ) (a b n : ℕ) (rings : Bool) (case : Case) (work : Work) (p : Plan) (m : Estimated) (terms : Terms)
    → case ≡ case_in d a b → work ≡ work_for case a b → p ≡ plan_for work d s ends a b n rings → m ≡ planned_count p d s ends l n → terms ≡ offer_in case m
    → (terms ≡ offer_in (case_in d a b) (work_count_in (work_for (case_in d a b) a b) d s ends l a b n rings))
    × (p ≡ plan_for (work_for (case_in d a b) a b) d s ends a b n rings)
offered d s ends l a b n rings case work p m terms h g i j k =
    (rw (← h, ← g, ← planned_counts work d s ends l a b n rings, ← i, ← j) k, rw (← h, ← g) i)

-- an edge was checked: its quote, and what the commit does
module _ (d s ends : List ℕ) (c : Counts) (limit : ℕ) (rings : Bool) (e : Edge) (k k' : Result Checked Refusal) (q : k ≡ k') (h : as_checked k ≡ check_in c limit e) where
  -- the quote has the terms that follow from the check, and the counts of now
  pub quote_checked : (l : List ℕ) (terms : Terms) → terms ≡ terms_in d s ends l c.edges rings (as_checked k')
      → record { asked = e; terms = terms; vertices = c.vertices; edges = c.edges } ≡ quote_in d s ends l c limit rings e
  unfolding quote_in
  quote_checked l terms g = rw (← h, q, ← g)

  -- the commit of a quote does what follows from the check
  pub intent_checked : (x : IntentIn) → x ≡ intent_for d s ends c.edges rings (as_checked k') → x ≡ intent_in d s ends c limit rings e
  unfolding intent_in
  intent_checked x g = rw (← h, q) g

-- an edge that passed is placed by its commit, as planned
pub intent_passed : (d s ends : List ℕ) (c : Counts) (limit : ℕ) (rings : Bool) (e : Edge) (k : Result Checked Refusal) (x : Checked) (p : Plan)
    → k ≡ Ok x → as_checked k ≡ check_in c limit e
    → p ≡ plan_for (work_for (case_in d x.first.0 x.second.0) x.first.0 x.second.0) d s ends x.first.0 x.second.0 c.edges rings
    → place x.first.0 x.second.0 x.length.0 x.volume.0 p ≡ intent_in d s ends c limit rings e
intent_passed d s ends c limit rings e k x p q h g = intent_checked d s ends c limit rings e k (Ok x) q h _ (rw g)
