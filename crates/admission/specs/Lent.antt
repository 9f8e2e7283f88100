-- What a call is lent, and what it leaves and answers.
use Rattle.std.specs.Prelude.{ℕ, List}
use Rattle.model.specs.Queries.{Reply}
use Rattle.model.specs.Tables.{Tables, Counts}
use Rattle.admission.specs.Own.{Lent, Outcome}

-- tables, counts, scratch
abbrev pub lent : Tables → Counts → Tables → Lent
lent t c s = record { stored = record { tables = t; counts = c }; scratch = s }

-- what a call leaves and answers: tables, counts, scratch, the lent slice, the answer
abbrev pub outcome : Tables → Counts → Tables → List ℕ → Reply → Outcome
outcome t c s xs a = record { lent = lent t c s; slice = xs; reply = a }
