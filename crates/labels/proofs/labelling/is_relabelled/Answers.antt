use borrow.Author.Tests.{eq-eqb, ne_eqb}
use Rattle.model.specs.Labels.{is_relabelled}
use Rattle.labels.proofs.labelling.is_relabelled.Goals as goal

pub returns-then-old-eq0 : goal.returns-then-old-eq0
unfolding is_relabelled
returns-then-old-eq0 c = rw (eq-eqb _ _ c.if-old-eq0.true)

pub returns-then-new-eq0 : goal.returns-then-new-eq0
unfolding is_relabelled
returns-then-new-eq0 c = rw (ne_eqb _ _ c.if-old-eq0.false, eq-eqb _ _ c.if-new-eq0.true)

pub returns : goal.returns
unfolding is_relabelled
returns c =
    rw (ne_eqb _ _ c.if-old-eq0.false, ne_eqb _ _ c.if-new-eq0.false)
