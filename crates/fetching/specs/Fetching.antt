-- A fetch over lent tables, as a function that mirrors the code.
use Rattle.std.specs.Prelude.{ℕ, List, replicate, ltb, if◌then◌else◌}
use Rattle.model.specs.Basics.{max_edges}
use Rattle.model.specs.Queries.{OpenSheet, Reply, refuses}
use Rattle.model.specs.Opened.{fetch_line, line_at}
use Rattle.model.specs.Tables.{Counts, Tables}
use Rattle.counters.specs.Answers.{counts}
use Rattle.insertion.specs.Insertion.{AnswerIn, done, refused_in}
use Rattle.chains.specs.Chains.{sheet_in}
use Rattle.holding.specs.Replay.{regrow_in}

-- once the opening's edges were landed on tables t, or refused: the line at the place of their sheet, over marks of its own
abbrev pub line_on : OpenSheet → Tables → AnswerIn → Reply
line_on s t (done c rings) =
    fetch_line s (line_at s.place (sheet_in t.degrees t.sides t.ends t.lengths t.volumes s.edges (replicate max_edges 0)))
line_on s t (refused_in x) = refuses 33

-- from the tables of ends, lengths and volumes of a register with counts c, over scratch t
unfoldable pub fetch_in : List ℕ → List ℕ → List ℕ → Counts → OpenSheet → Tables → Reply
fetch_in ends lengths volumes c s t =
    let l = regrow_in ends lengths volumes (counts s.vertices s.edges 0 0) t in
    if ltb c.vertices s.vertices then refuses 33
    else if ltb c.edges s.edges then refuses 33
    else line_on s l.tables l.answer
