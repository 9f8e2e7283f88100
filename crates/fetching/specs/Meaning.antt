-- What the enum of this crate means.
use Rattle.std.specs.Prelude.{ℕ}
use Rattle.model.specs.Queries.{OpenSheet, Reply, fetched, finished, refuses}
use Rattle.chains.specs.Answers.{row_of}
use Rattle.fetching.specs.declared.lines.Line.{Line}
use Rattle.fetching.specs.declared.lines.Line.TheVariants.{Row, Past, Beyond}

-- a sheet by its opening counts, its place and its count of removals
abbrev pub open_sheet : ℕ → ℕ → ℕ → ℕ → OpenSheet
open_sheet vertices edges place removals = record { vertices = vertices; edges = edges; place = place; removals = removals }

-- what a fetch from this sheet is answered: "the line at its place and moves on", "done and stays", 33
abbrev pub line_reply : OpenSheet → Line → Reply
line_reply s (Row row next) = fetched (row_of row) (open_sheet s.vertices s.edges next s.removals)
line_reply s Past = finished s
line_reply s Beyond = refuses 33
