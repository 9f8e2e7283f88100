use native.Mathlib.Omega.{arith}
use Rattle.labels.specs.Labelling.{next_in}
use Rattle.labels.proofs.labelling.next_label.Goals as goal

pub returns-then-up : goal.returns-then-up
unfolding next_in
returns-then-up c = rw c.if-up.true c.one_more32.ensures

pub returns-then-label-eq0 : goal.returns-then-label-eq0
unfolding next_in
returns-then-label-eq0 c = rw c.if-up.false (omega arith)

pub returns : goal.returns
unfolding next_in
returns c = rw c.if-up.false
