use Rattle.placement.proofs.placing.work_of.Goals as goal

pub returns-in-New : goal.returns-in-New
returns-in-New c = rw c.in-New.is

pub returns-in-ExtendFirst : goal.returns-in-ExtendFirst
returns-in-ExtendFirst c = rw c.in-ExtendFirst.is

pub returns-in-ExtendSecond : goal.returns-in-ExtendSecond
returns-in-ExtendSecond c = rw c.in-ExtendSecond.is

pub returns-in-Merge : goal.returns-in-Merge
returns-in-Merge c = rw c.in-Merge.is

pub returns-in-SplitExtendFirst : goal.returns-in-SplitExtendFirst
returns-in-SplitExtendFirst c = rw c.in-SplitExtendFirst.is

pub returns-in-SplitExtendSecond : goal.returns-in-SplitExtendSecond
returns-in-SplitExtendSecond c = rw c.in-SplitExtendSecond.is

pub returns-in-SplitFirst : goal.returns-in-SplitFirst
returns-in-SplitFirst c = rw c.in-SplitFirst.is

pub returns-in-SplitSecond : goal.returns-in-SplitSecond
returns-in-SplitSecond c = rw c.in-SplitSecond.is

pub returns-in-SplitBoth : goal.returns-in-SplitBoth
returns-in-SplitBoth c = rw c.in-SplitBoth.is
