-- What the commit of a quote is to do, by what the quote reads.
use Rattle.std.specs.Prelude.{ℕ, Bool, List}
use Rattle.model.specs.Graph.{Edge}
use Rattle.model.specs.Tables.{Counts}
use Rattle.checking.specs.Checks.{CheckIn, check_in, passed, failed}
use Rattle.placement.specs.Placing.{work_for}
use Rattle.placement.specs.Planning.{plan_for}
use Rattle.placement.specs.declared.planning.Plan.{Plan}
use Rattle.quoting.specs.Quoting.{case_in}

-- what the commit of a quote does: an edge with its plan, or a refusal
pub data IntentIn : Type 0 where
  place : ℕ → ℕ → ℕ → ℕ → Plan → IntentIn
  refuse : ℕ → IntentIn

abbrev pub intent_for : List ℕ → List ℕ → List ℕ → ℕ → Bool → CheckIn → IntentIn
intent_for degrees sides ends n rings (passed a b l v) =
    place a b l v (plan_for (work_for (case_in degrees a b) a b) degrees sides ends a b n rings)
intent_for degrees sides ends n rings (failed x) = refuse x

unfoldable pub intent_in : List ℕ → List ℕ → List ℕ → Counts → ℕ → Bool → Edge → IntentIn
intent_in degrees sides ends c limit rings e = intent_for degrees sides ends c.edges rings (check_in c limit e)
