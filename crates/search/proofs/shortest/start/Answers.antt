use Rattle.search.proofs.Answers.{filled_but}
use Rattle.search.proofs.shortest.start.Goals as goal

pub returns : goal.returns
returns c = filled_but _ _ _ _ c.requires (c.fill.ensures.after (λ y e. e)) c.put.ensures
