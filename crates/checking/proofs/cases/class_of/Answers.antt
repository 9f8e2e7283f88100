use Rattle.std.proofs.Common.{arith}
use Rattle.model.specs.Cases.{class_of}
use Rattle.checking.proofs.Classes.{class_branch}
use Rattle.checking.proofs.cases.class_of.Goals as goal

pub returns-in-0 : goal.returns-in-0
unfolding class_of
returns-in-0 c = rw c.in-0.is

pub returns-in-1 : goal.returns-in-1
unfolding class_of
returns-in-1 c = rw c.in-1.is

pub returns-in-2 : goal.returns-in-2
unfolding class_of
returns-in-2 c = rw c.in-2.is

pub returns-in_default : goal.returns-in_default
returns-in_default c = class_branch _ (omega arith) (omega arith) (omega arith)
