-- Document 02's values of an opened sheet and of the answers to open and fetch.
use Rattle.counters.specs.declared.refusals.Refusal.{Refusal}
use Rattle.std.specs.Prelude.{Result, Ok, Err}
use Rattle.model.specs.Queries as Q
use Rattle.counters.specs.Refusals.{number_of}
use Rattle.chains.specs.Answers.{row_of}
use Rattle.opening.specs.declared.sheets.OpenSheet.{OpenSheet}
use Rattle.opening.specs.declared.sheets.Fetched.{Fetched}
use Rattle.opening.specs.declared.sheets.Fetched.TheVariants as fetched

-- the opening counts, the place and the count of removals
abbrev pub as_sheet : OpenSheet → Q.OpenSheet
as_sheet s = record { vertices = s.vertices; edges = s.edges; place = s.place; removals = s.removals }

abbrev pub opened_reply : Result OpenSheet Refusal → Q.Reply
opened_reply (Ok s) = Q.opened (as_sheet s)
opened_reply (Err x) = Q.refuses (number_of x)

-- "the line at its place and moves on by one, or .. says the sheet is done and stays"
abbrev pub fetched_reply : Result Fetched Refusal → Q.Reply
fetched_reply (Ok (fetched.Line row s)) = Q.fetched (row_of row) (as_sheet s)
fetched_reply (Ok (fetched.Done s)) = Q.finished (as_sheet s)
fetched_reply (Err x) = Q.refuses (number_of x)
