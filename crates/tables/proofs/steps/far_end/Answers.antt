use borrow.Author.Tests.{eq-eqb, ne_eqb}
use Rattle.tables.specs.Steps.{far_in}
use Rattle.tables.proofs.steps.far_end.Goals as goal

pub returns-then-first-v : goal.returns-then-first-v
unfolding far_in
returns-then-first-v c = rw (← c.at-first.ensures, eq-eqb _ _ c.if-first-v.true) c.at.ensures

pub returns : goal.returns
unfolding far_in
returns c = rw (← c.at-first.ensures, ne_eqb _ _ c.if-first-v.false)
