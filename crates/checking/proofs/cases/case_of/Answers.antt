use Rattle.std.proofs.Common.{arith}
use Rattle.model.specs.Cases.{class_of}
use Rattle.checking.proofs.Classes.{case_singular}
use mathlib.Core.Path.{◌∙◌}
use Rattle.checking.proofs.cases.case_of.Goals as goal

pub returns-in-1 : goal.returns-in-1
unfolding class_of
returns-in-1 c = rw c.in-1.is c.case_of_leaf.ensures

pub returns-in-2 : goal.returns-in-2
unfolding class_of
returns-in-2 c = rw c.in-2.is c.case_of_regular.ensures

pub returns-in_default : goal.returns-in_default
returns-in_default c = c.case_of_singular.ensures ∙ case_singular _ _ (omega arith) (omega arith)
