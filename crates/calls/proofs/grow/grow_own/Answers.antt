use mathlib.Core.Path.{◌≡◌, ap, ◌∙◌}
use Rattle.std.proofs.Common.{rules}
use Rattle.model.specs.Tables.{Tables}
use Rattle.tables.specs.Meaning.{tables}
use Rattle.lent.specs.Lent.{of_lent}
use Rattle.landing.specs.Meaning.{as_reading}
use Rattle.calls.proofs.CallLaws.{grow_refused, grow_done}
use Rattle.calls.proofs.grow.grow_own.Goals as goal

pub returns-then-not-clear_if_fit-clause-steps : goal.returns-then-not-clear_if_fit-clause-steps
returns-then-not-clear_if_fit-clause-steps c =
    let back : tables _ _ _ _ _ _ ≡ of_lent c.clear_if_fit.new.register = search rules in
    λ removals. grow_refused _ removals _ _ _ _ _ _ _ c.clear_if_fit.ensures.clears.0 (back ∙ c.clear_if_fit.ensures.clears.1) c.clear_if_fit.ensures.clears.2 c.if-not-clear_if_fit.true

pub returns-clause-steps : goal.returns-clause-steps
returns-clause-steps c =
    let back : tables _ _ _ _ _ _ ≡ of_lent c.land_read-reading.new.register = search rules in
    λ removals. grow_done _ removals _ _ _ _ _ _ _ _ _ c.clear_if_fit.ensures.clears.0 c.clear_if_fit.ensures.clears.1 c.clear_if_fit.ensures.clears.2 c.if-not-clear_if_fit.false c.none.ensures
    (ap (λ (t : Tables). as_reading t c.land_read-reading.result) back ∙ c.land_read-reading.ensures.lands)
