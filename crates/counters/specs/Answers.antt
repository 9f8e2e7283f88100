-- Document 01's values of the answers to grow and land, and of the head.
use Rattle.std.specs.Prelude.{ℕ, Result, Ok, Err}
use Rattle.model.specs.Format as format
use Rattle.model.specs.Queries.{Reply, read, refuses}
use Rattle.model.specs.Tables as T
use Rattle.counters.specs.Refusals.{number_of}
use Rattle.counters.specs.declared.answers.Stop.{Stop}
use Rattle.counters.specs.declared.answers.Stop.TheVariants.{Whole, Stopped}
use Rattle.counters.specs.declared.refusals.Refusal.{Refusal}
use Rattle.counters.specs.declared.counts.Counts.{Counts}

abbrev pub as_stop : Stop → format.Stop
as_stop Whole = format.whole
as_stop (Stopped k x) = format.stopped k (number_of x)

abbrev pub list_reply : Result Stop Refusal → Reply
list_reply (Ok s) = read (as_stop s)
list_reply (Err x) = refuses (number_of x)

-- the head's four numbers
abbrev pub counts : ℕ → ℕ → ℕ → ℕ → T.Counts
counts vertices edges blocks relabellings =
    record { vertices = vertices; edges = edges; blocks = blocks; relabellings = relabellings }

abbrev pub as_counts : Counts → T.Counts
as_counts c = counts c.vertices c.edges c.blocks c.relabellings
