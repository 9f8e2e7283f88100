-- What the answer of this crate stands for.
use Rattle.std.specs.Prelude.{Result, Ok, Err}
use Rattle.counters.specs.Refusals.{number_of}
use Rattle.counters.specs.Answers.{as_counts}
use Rattle.insertion.specs.Insertion.{AnswerIn, done, refused_in}
use Rattle.insertion.specs.declared.edges.Inserted.{Inserted}
use Rattle.counters.specs.declared.refusals.Refusal.{Refusal}

abbrev pub as_answer : Result Inserted Refusal → AnswerIn
as_answer (Ok i) = done (as_counts i.counts) i.rings
as_answer (Err x) = refused_in (number_of x)
