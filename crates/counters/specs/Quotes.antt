-- Document 02, S-5: what the parts of a quote, and the answers to quote and commit, stand for.
use Rattle.std.specs.Prelude.{ℕ, Result, Ok, Err, ⊤}
use Rattle.model.specs.Register as R
use Rattle.model.specs.Queries.{Reply, quoted, committed, refuses}
use Rattle.counters.specs.Refusals.{number_of}
use Rattle.counters.specs.declared.quotes.QuotedCase.{QuotedCase}
use Rattle.counters.specs.declared.quotes.QuotedCase.TheVariants.{NewRun, Extended, Merged, SplitExtended, Split, SplitTwice, Ring}
use Rattle.counters.specs.declared.refusals.Refusal.{Refusal}
use Rattle.counters.specs.declared.quotes.Offer.{Offer}
use Rattle.counters.specs.declared.quotes.Quote.{Quote}

-- "its case (one of the six, or a ring)"
abbrev pub number_of_case : QuotedCase → ℕ
number_of_case NewRun = 1
number_of_case Extended = 2
number_of_case Merged = 3
number_of_case SplitExtended = 4
number_of_case Split = 5
number_of_case SplitTwice = 6
number_of_case Ring = 7

abbrev pub as_terms : Result Offer Refusal → R.Terms
as_terms (Ok o) = R.offers (number_of_case o.case) o.relabellings
as_terms (Err x) = R.declines (number_of x)

-- "the pipe asked for (fittings, length, volume), its case .. and re-hangings or else its refusal, with the fitting and pipe counts"
abbrev pub as_quote : Quote → R.Quote
as_quote q =
    record {
      asked = record { first = q.first; second = q.second; len = q.length; volume = q.volume };
      terms = as_terms q.terms;
      vertices = q.vertices;
      edges = q.edges;
    }

abbrev pub quote_reply : Result Quote Refusal → Reply
quote_reply (Ok q) = quoted (as_quote q)
quote_reply (Err x) = refuses (number_of x)

abbrev pub commit_reply : Result ⊤ Refusal → Reply
commit_reply (Ok _) = committed
commit_reply (Err x) = refuses (number_of x)
