use Rattle.questions.proofs.TableLaws.{find_at_law}
use Rattle.questions.proofs.find.find_at_cleared.Goals as goal

pub returns-clause-found : goal.returns-clause-found
returns-clause-found c = λ volumes. find_at_law _ _ _ _ _ _ c.label_of-label.ensures (c.find_cleared.ensures.found volumes)
