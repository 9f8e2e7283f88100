use Rattle.joining.proofs.Merges.{answer_joined, answer_begun}
use Rattle.joining.proofs.merging.join_kept.Goals as goal

pub returns-in-None : goal.returns-in-None
returns-in-None c =
    answer_begun _ _ _ _ _ _ _ _ _ _ _ _ _ _ _ _ _ _ c.in-None.is c.one_more16-k.ensures c.begin_chain.ensures c.new.ensures

pub returns-in-Some : goal.returns-in-Some
returns-in-Some c =
    answer_joined _ _ _ _ _ _ _ _ _ _ _ _ _ _ _ _ _ _ _ _ c.in-Some.is c.join_chains-n.ensures c.new-in-Some.ensures
