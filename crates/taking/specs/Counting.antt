-- The count of removals that a remove leaves.
use Rattle.counters.specs.declared.refusals.Refusal.{Refusal}
use Rattle.std.specs.Prelude.{ℕ, Result, Ok, Err}
use Rattle.tables.specs.Steps.{more32}

-- one more where it is reported
abbrev pub count_after : Result ℕ Refusal → ℕ → ℕ
count_after (Ok n) k = more32 k
count_after (Err x) k = k
