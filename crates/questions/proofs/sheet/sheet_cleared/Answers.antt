use lib.ListN.{replicate}
use Prim.Native.Nat.{ℕ}
use mathlib.Core.Path.{ap, ◌∙◌}
use Rattle.questions.proofs.sheet.sheet_cleared.Goals as goal

pub returns-clause-sheeted : goal.returns-clause-sheeted
returns-clause-sheeted c = c.sheet_in-listed.ensures

pub returns-clause-cleared : goal.returns-clause-cleared
returns-clause-cleared c =
    (c.fill.ensures.after (λ _ e. e) ∙ ap (λ (n : ℕ). replicate n 0) c.sheet_in-listed.auto.counting, c.fill-2.ensures.after (λ _ e. e) ∙ ap (λ (n : ℕ). replicate n 0) c.sheet_in-listed.auto.marks)
