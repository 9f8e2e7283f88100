use borrow.Author.Tests.{eq-eqb, ne_eqb}
use Rattle.tables.specs.Steps.{turn_in}
use Rattle.tables.proofs.steps.turn_at.Goals as goal

pub returns-then-low-d : goal.returns-then-low-d
unfolding turn_in
returns-then-low-d c = rw (← c.at-low.ensures, eq-eqb _ _ c.if-low-d.true) c.at.ensures

pub returns : goal.returns
unfolding turn_in
returns c = rw (← c.at-low.ensures, ne_eqb _ _ c.if-low-d.false)
