use Rattle.labels.specs.Labelling.{orient_in}
use Rattle.labels.proofs.labelling.orient_sides.Goals as goal

pub returns-then-up : goal.returns-then-up
unfolding orient_in
returns-then-up c =
    rw c.if-up.true c.put_sides.ensures

pub returns-else-up : goal.returns-else-up
unfolding orient_in
returns-else-up c =
    rw c.if-up.false c.put_sides-else-up.ensures
