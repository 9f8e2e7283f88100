use Rattle.pnl.proofs.Returns.{handed, value_kept}
use Rattle.model.specs.FromC.{returns_refusal, returns_terms}
use Rattle.costs.proofs.terms.answer_terms.Goals as goal

pub returns-in-Ok : goal.returns-in-Ok
unfolding returns_terms
returns-in-Ok c =
    rw (c.in-Ok.is, ← c.number.ensures) (handed c.answer_numbers.type_inv c.answer_numbers.ensures)

pub returns-in-Err : goal.returns-in-Err
unfolding returns_terms returns_refusal
returns-in-Err c = rw (c.in-Err.is, value_kept c.refused.type_inv, c.refused.ensures)
