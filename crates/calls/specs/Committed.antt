-- What an edge that was committed leaves of the counts, and what is answered, as functions that mirror the code.
use Rattle.model.specs.Queries.{Reply, committed, refuses}
use Rattle.model.specs.Tables.{Counts}
use Rattle.insertion.specs.Insertion.{AnswerIn, done, refused_in}

abbrev pub counts_after : Counts → AnswerIn → Counts
counts_after c (done c' rings) = c'
counts_after c (refused_in x) = c

abbrev pub reply_to : AnswerIn → Reply
reply_to (done c rings) = committed
reply_to (refused_in x) = refuses x
