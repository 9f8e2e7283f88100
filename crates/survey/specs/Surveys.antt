-- What is asked where no tag is hung: of a register, and as a function of tables that mirrors the code.
use Rattle.std.specs.Prelude.{ℕ, List, length, replicate}
use Rattle.model.specs.Basics.{max_edges}
use Rattle.model.specs.Register.{Register, empty}
use Rattle.model.specs.FromC.{Returned, returns_numbers, returns_reply}
use Rattle.model.specs.Queries.{Reply, concat, listed, measure, sheet}
use Rattle.model.specs.Tables.{Tables, Counts}
use Rattle.chains.specs.Chains.{sheet_in}
use Rattle.questions.specs.Measure.{measure_in}
use Rattle.survey.specs.declared.recorded.Survey.{Survey}
use Rattle.survey.specs.declared.recorded.Survey.TheVariants.{Sheet, Distance}

-- what it answers of a register
abbrev pub as_survey : Survey → Register → Reply
as_survey Sheet = λ r. listed (length (sheet r))
as_survey (Distance v w) = λ r. measure r v w

-- what it returns over tables and counts. A distance, or 5, is returned in whatever register.
abbrev pub survey_in : Survey → Tables → Counts → List ℕ → Returned
survey_in Sheet t c slice =
    returns_numbers slice (concat (sheet_in t.degrees t.sides t.ends t.lengths t.volumes c.edges (replicate max_edges 0)))
survey_in (Distance v w) t c slice = returns_reply empty slice (measure_in t c v w)
