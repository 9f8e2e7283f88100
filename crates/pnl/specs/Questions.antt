-- What a question asks.
use Rattle.counters.specs.declared.numbers.Label.{Label}
use Rattle.std.specs.Prelude.{Option, Some, None}
use Rattle.model.specs.Register.{Register}
use Rattle.model.specs.Queries.{Reply, refuses, find, find_at}
use Rattle.pnl.specs.declared.asked.Question.{Question}
use Rattle.pnl.specs.declared.asked.Question.TheVariants.{Find, FindAt}

-- what a question answers of a register
abbrev pub as_question : Question → Register → Reply
as_question (Find label) = λ r. find r label
as_question (FindAt v) = λ r. find_at r v

-- what find answers of the label that a question comes to, and 8 where it comes to none
abbrev pub asked : Option Label → Register → Reply
asked (Some l) = λ r. find r l.0
asked None = λ r. refuses 8
