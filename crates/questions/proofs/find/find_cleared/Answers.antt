use mathlib.Core.Path.{ap, ◌∙◌}
use Prim.Native.Nat.{ℕ}
use lib.ListN.{replicate}
use Rattle.questions.proofs.find.find_cleared.Goals as goal

pub returns-clause-found : goal.returns-clause-found
returns-clause-found c = c.find_in-found.ensures

pub returns-clause-cleared : goal.returns-clause-cleared
returns-clause-cleared c = c.fill.ensures.after (λ _ e. e) ∙ ap (λ (n : ℕ). replicate n 0) c.find_in-found.auto.order
