use Rattle.model.specs.Register.{case_number}
use Rattle.quoting.proofs.edges.quoted_case.Goals as goal

pub returns-in-New : goal.returns-in-New
unfolding case_number
returns-in-New c = rw c.in-New.is

pub returns-in-ExtendFirst : goal.returns-in-ExtendFirst
unfolding case_number
returns-in-ExtendFirst c = rw c.in-ExtendFirst.is

pub returns-in-ExtendSecond : goal.returns-in-ExtendSecond
unfolding case_number
returns-in-ExtendSecond c = rw c.in-ExtendSecond.is

pub returns-in-Merge : goal.returns-in-Merge
unfolding case_number
returns-in-Merge c = rw c.in-Merge.is

pub returns-in-SplitExtendFirst : goal.returns-in-SplitExtendFirst
unfolding case_number
returns-in-SplitExtendFirst c = rw c.in-SplitExtendFirst.is

pub returns-in-SplitExtendSecond : goal.returns-in-SplitExtendSecond
unfolding case_number
returns-in-SplitExtendSecond c = rw c.in-SplitExtendSecond.is

pub returns-in-SplitFirst : goal.returns-in-SplitFirst
unfolding case_number
returns-in-SplitFirst c = rw c.in-SplitFirst.is

pub returns-in-SplitSecond : goal.returns-in-SplitSecond
unfolding case_number
returns-in-SplitSecond c = rw c.in-SplitSecond.is

pub returns-in-SplitBoth : goal.returns-in-SplitBoth
unfolding case_number
returns-in-SplitBoth c = rw c.in-SplitBoth.is
