use Rattle.model.specs.Cases.{case_of}
use Rattle.checking.proofs.cases.case_of_leaf.Goals as goal

pub returns-in-Isolated : goal.returns-in-Isolated
unfolding case_of
returns-in-Isolated c = rw c.in-Isolated.is

pub returns-in-Leaf : goal.returns-in-Leaf
unfolding case_of
returns-in-Leaf c = rw c.in-Leaf.is

pub returns-in-Regular : goal.returns-in-Regular
unfolding case_of
returns-in-Regular c = rw c.in-Regular.is

pub returns-in-Branch : goal.returns-in-Branch
unfolding case_of
returns-in-Branch c = rw c.in-Branch.is
