-- Document 01's values of the answers to sheet and distance, and document 02's to find and write.
use Rattle.counters.specs.declared.numbers.Millimetres.{Millimetres}
use Rattle.looking.specs.declared.through.FoundChain.{FoundChain}
use Rattle.counters.specs.declared.refusals.Refusal.{Refusal}
use Rattle.std.specs.Prelude.{ℕ, Option, Result, Ok, Err}
use Rattle.model.specs.Queries.{Reply, found, listed, measured, wrote, refuses}
use Rattle.counters.specs.Refusals.{number_of}
use Rattle.search.specs.Meaning.{as_distance}

-- "the run, the coupling wearing it, and the lengths to the low and high end"
abbrev pub found_reply : Result FoundChain Refusal → Reply
found_reply (Ok c) = found c.name.0 c.wearer.0 c.low.0 c.high.0
found_reply (Err x) = refuses (number_of x)

-- the number of chains
abbrev pub listed_reply : Result ℕ Refusal → Reply
listed_reply (Ok n) = listed n
listed_reply (Err x) = refuses (number_of x)

-- the number of bytes
abbrev pub written_reply : Result ℕ Refusal → Reply
written_reply (Ok n) = wrote n
written_reply (Err x) = refuses (number_of x)

-- the distance
abbrev pub measured_reply : Result (Option Millimetres) Refusal → Reply
measured_reply (Ok d) = measured (as_distance d)
measured_reply (Err x) = refuses (number_of x)
