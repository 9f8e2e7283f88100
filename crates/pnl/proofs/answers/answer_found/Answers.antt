use Rattle.pnl.proofs.Returns.{value_kept, handed}
use Rattle.model.specs.FromC.{returns_reply, returns_refusal}
use Rattle.pnl.proofs.Bytes.{four_numbers}
use Rattle.pnl.proofs.answers.answer_found.Goals as goal

pub returns-in-Ok : goal.returns-in-Ok
unfolding returns_reply
returns-in-Ok c =
    λ register. rw c.in-Ok.is (four_numbers _ _ _ _ _ _ _ _ c.from-run.ensures c.from-coupling.ensures (handed c.answer_numbers.type_inv c.answer_numbers.ensures))

pub returns-in-Err : goal.returns-in-Err
unfolding returns_reply returns_refusal
returns-in-Err c = λ register. rw (c.in-Err.is, value_kept c.refused.type_inv, c.refused.ensures)
