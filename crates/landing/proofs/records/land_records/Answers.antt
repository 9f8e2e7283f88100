use Rattle.std.proofs.Common.{rules}
use mathlib.Core.Path.{ap, sym, ◌∙◌}
use native.Mathlib.Omega.{arith}
use Rattle.landing.specs.Records.{stepped_in}
use Rattle.landing.specs.Meaning.{as_step}
use Rattle.landing.proofs.RecordLaws.{records_none, records_end, records_stop, records_on}
use Rattle.landing.proofs.records.land_records.Goals as goal

pub returns-in-End-clause-lands : goal.returns-in-End-clause-lands
returns-in-End-clause-lands c =
    records_end _ _ _ _ _ _ _ _ _ _ (omega (arith, c.loop-number-test.true)) (ap (stepped_in _) (ap as_step (sym c.in-End.is)) ∙ c.land_record-step.ensures.lands) ∙ c.loop-number.invariant.1

pub returns-in-Refused-clause-lands : goal.returns-in-Refused-clause-lands
returns-in-Refused-clause-lands c =
    records_stop _ _ _ _ _ _ _ _ _ _ _ (omega (arith, c.loop-number-test.true)) (ap (stepped_in _) (ap as_step (sym c.in-Refused.is)) ∙ c.land_record-step.ensures.lands) ∙ c.loop-number.invariant.1

pub loop-number-preserved : goal.loop-number-preserved
loop-number-preserved c =
    (search rules, sym (records_on _ _ _ _ _ _ _ _ _ _ _ _ _ _ c.loop-number-test.true (ap (stepped_in _) (ap as_step (sym c.in-Landed.is)) ∙ c.land_record-step.ensures.lands)) ∙ c.loop-number.invariant.1)

pub returns-clause-lands : goal.returns-clause-lands
returns-clause-lands c = records_none _ _ _ _ _ _ _ _ _ (omega (arith, c.loop-number-test.false)) ∙ c.loop-number.invariant.1
