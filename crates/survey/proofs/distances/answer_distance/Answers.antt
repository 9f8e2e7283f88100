use Rattle.model.specs.FromC.{returns_reply, returns_refusal, distance_number}
use Rattle.pnl.proofs.Returns.{value_kept, handed}
use Rattle.survey.proofs.distances.answer_distance.Goals as goal

pub returns-in-Ok-Some : goal.returns-in-Ok-Some
unfolding returns_reply distance_number
returns-in-Ok-Some c =
    let inner = rw c.in-Ok-Some.is at c.in-Ok-Some.field-0-is in
    λ register. rw (c.in-Ok-Some.is, inner) (handed c.answer_numbers.type_inv c.answer_numbers.ensures)

pub returns-in-Ok-None : goal.returns-in-Ok-None
unfolding returns_reply distance_number
returns-in-Ok-None c =
    let inner = rw c.in-Ok-None.is at c.in-Ok-None.field-0-is in
    λ register. rw (c.in-Ok-None.is, inner) (handed c.answer_numbers-in-Ok-None.type_inv c.answer_numbers-in-Ok-None.ensures)

pub returns-in-Err : goal.returns-in-Err
unfolding returns_reply returns_refusal
returns-in-Err c = λ register. rw (c.in-Err.is, value_kept c.refused.type_inv, c.refused.ensures)
