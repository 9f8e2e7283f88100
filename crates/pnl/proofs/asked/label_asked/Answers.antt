use Rattle.pnl.proofs.CallLaws.{asked_given}
use Rattle.pnl.proofs.asked.label_asked.Goals as goal

pub returns-in-Find : goal.returns-in-Find
returns-in-Find c = λ degrees sides ends lengths volumes counts register h. rw c.in-Find.is (asked_given c.label_given.result _ register c.label_given.ensures)

pub returns-in-FindAt : goal.returns-in-FindAt
returns-in-FindAt c = λ degrees sides ends lengths volumes counts register h. rw c.in-FindAt.is (c.label_at.ensures degrees sides ends lengths volumes counts register h)
