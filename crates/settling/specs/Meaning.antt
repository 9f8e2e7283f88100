-- Document 02's value of the answer to a remove.
use Rattle.counters.specs.declared.refusals.Refusal.{Refusal}
use Rattle.std.specs.Prelude.{ℕ, Result, Ok, Err}
use Rattle.model.specs.Queries.{Reply, reported, refuses}
use Rattle.counters.specs.Refusals.{number_of}

-- the number of fittings that are reported
abbrev pub removed_reply : Result ℕ Refusal → Reply
removed_reply (Ok n) = reported n
removed_reply (Err x) = refuses (number_of x)
