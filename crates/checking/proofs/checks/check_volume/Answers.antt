use Rattle.checking.specs.Checks.{stored_volume}
use Rattle.counters.specs.Numbers.{as_millilitres}
use mathlib.Core.Path.{ap, sym, ◌∙◌}
use Rattle.checking.proofs.checks.check_volume.Goals as goal

pub returns-in-Known : goal.returns-in-Known
returns-in-Known c = ap stored_volume (ap as_millilitres (sym c.in-Known.is) ∙ c.new.ensures)

pub returns-in-Unknown : goal.returns-in-Unknown
returns-in-Unknown c = ap stored_volume (ap as_millilitres (sym c.in-Unknown.is) ∙ c.new.ensures)

pub returns-in-OutOfRange : goal.returns-in-OutOfRange
returns-in-OutOfRange c = ap stored_volume (ap as_millilitres (sym c.in-OutOfRange.is) ∙ c.new.ensures)
