use Rattle.tables.specs.Rounds.{lower_in}
use borrow.Author.Tests.{lt-ltb, le-ltb}
use Rattle.tables.proofs.rings.lower_edge.Goals as goal

pub returns-then-low-high : goal.returns-then-low-high
unfolding lower_in
returns-then-low-high c =
    rw (← c.low_edge-low.ensures, ← c.high_edge-high.ensures, lt-ltb _ _ c.if-low-high.true)

pub returns : goal.returns
unfolding lower_in
returns c =
    rw (← c.low_edge-low.ensures, ← c.high_edge-high.ensures, le-ltb _ _ c.if-low-high.false)
