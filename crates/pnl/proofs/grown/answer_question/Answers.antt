use Rattle.pnl.proofs.Returns.{value_kept, handed}
use Rattle.pnl.proofs.CallLaws.{find_question}
use Rattle.model.specs.FromC.{returns_reply, returns_refusal}
use mathlib.Core.Path.{ap, ◌∙◌}
use Rattle.pnl.proofs.grown.answer_question.Goals as goal

pub returns-in_default : goal.returns-in_default
unfolding returns_reply returns_refusal
returns-in_default c =
    λ volumes register h.
    rw (value_kept c.refused.type_inv, c.refused.ensures) (ap (returns_reply register _) (c.in_default.ensures _ _ _ _ volumes _ register h))

pub returns : goal.returns
returns c =
    λ volumes register h.
    find_question _ _ _ _ _ _ _ register h _ _ _ _ (c.find_from-found.ensures volumes) (handed c.answer_found.type_inv (c.answer_found.ensures register))
    ∙ ap (returns_reply register _) (c.in-Some.ensures _ _ _ _ volumes _ register h)
