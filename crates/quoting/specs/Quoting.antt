-- What a quote reads from the tables (document 02, S-5), as functions of lists that mirror the code.
use Rattle.std.specs.Prelude.{ℕ, Bool, false, List, get_or, if◌then◌else◌}
use Rattle.model.specs.Graph.{Edge}
use Rattle.model.specs.Cases.{Case, class_of, case_of}
use Rattle.model.specs.Register.{Quote, Terms, offers, declines, case_number}
use Rattle.model.specs.Tables.{Counts}
use Rattle.checking.specs.Checks.{CheckIn, check_in, passed, failed}
use Rattle.counting.specs.Counting.{Estimated, estimated, merge_count_in, split_count_in}
use Rattle.placement.specs.Placing.{work_for}
use Rattle.placement.specs.declared.placing.Work.{Work}
use Rattle.placement.specs.declared.placing.Work.TheVariants.{Merge, Open}

-- whether a ring would be closed, and how many vertices relabelled, by what would be done for the edge between a and b
abbrev pub work_count_in : Work → List ℕ → List ℕ → List ℕ → List ℕ → ℕ → ℕ → ℕ → Bool → Estimated
work_count_in Merge degrees sides ends labels a b n rings = merge_count_in degrees sides ends labels a b n
work_count_in (Open splits extension) degrees sides ends labels a b n rings =
    estimated false (split_count_in splits degrees sides ends a b n rings)

-- "its case (one of the six, or a ring) and re-hangings"
unfoldable pub offer_in : Case → Estimated → Terms
offer_in case m = offers (if m.ring then 7 else case_number case) m.count

-- the case of the edge between a and b, by the degrees of its ends
abbrev pub case_in : List ℕ → ℕ → ℕ → Case
case_in degrees a b = case_of (class_of (get_or degrees a 0)) (class_of (get_or degrees b 0))

-- ".. or else its refusal"; n edges are there
abbrev pub terms_in : List ℕ → List ℕ → List ℕ → List ℕ → ℕ → Bool → CheckIn → Terms
terms_in degrees sides ends labels n rings (failed x) = declines x
terms_in degrees sides ends labels n rings (passed a b l v) =
    offer_in (case_in degrees a b) (work_count_in (work_for (case_in degrees a b) a b) degrees sides ends labels a b n rings)

-- the quote of edge e within a limit on the register's edges; rings: a ring may stand
unfoldable pub quote_in : List ℕ → List ℕ → List ℕ → List ℕ → Counts → ℕ → Bool → Edge → Quote
quote_in degrees sides ends labels c limit rings e =
    record {
      asked = e;
      terms = terms_in degrees sides ends labels c.edges rings (check_in c limit e);
      vertices = c.vertices;
      edges = c.edges;
    }
