use Rattle.counters.specs.Numbers.{within}
use borrow.Author.Tests.{le-leb}
use native.Mathlib.Omega.{arith}
use mathlib.Core.Path.{◌∙◌}
use Rattle.pnl.proofs.asked.label_given.Goals as goal

pub returns : goal.returns
unfolding within
returns c = c.new.ensures ∙ rw (le-leb 0 c.args.label (omega arith), le-leb c.args.label 4294967295 (omega (arith, c.ranges.label.fits)))
