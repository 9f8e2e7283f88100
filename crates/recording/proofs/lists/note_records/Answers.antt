use Rattle.landing.proofs.RecordLaws.{records_none, records_end, records_stop, records_on}
use Rattle.landing.specs.Meaning.{as_step}
use Rattle.landing.specs.Records.{stepped_in}
use native.Mathlib.Omega.{arith}
use Rattle.std.proofs.Math.Nat.{sub-zero}
use mathlib.Core.Path.{ap, sym, ◌∙◌}
use Rattle.recording.proofs.lists.note_records.Goals as goal

pub loop-number-init : goal.loop-number-init
loop-number-init c = rw (sub-zero, c.none-counts.ensures)

pub returns-in-End : goal.returns-in-End
returns-in-End c =
    records_end _ _ _ _ _ _ _ _ _ _ (omega (arith, c.loop-number-test.true)) (ap (stepped_in _) (ap as_step (sym c.in-End.is)) ∙ c.note_record-step.ensures) ∙ c.loop-number.invariant

pub returns-in-Refused : goal.returns-in-Refused
returns-in-Refused c =
    records_stop _ _ _ _ _ _ _ _ _ _ _ (omega (arith, c.loop-number-test.true)) (ap (stepped_in _) (ap as_step (sym c.in-Refused.is)) ∙ c.note_record-step.ensures) ∙ c.loop-number.invariant

pub loop-number-preserved : goal.loop-number-preserved
loop-number-preserved c =
    sym (records_on _ _ _ _ _ _ _ _ _ _ _ _ _ _ c.loop-number-test.true (ap (stepped_in _) (ap as_step (sym c.in-Landed.is)) ∙ c.note_record-step.ensures)) ∙ c.loop-number.invariant

pub returns : goal.returns
returns c = records_none _ _ _ _ _ _ _ _ _ (omega (arith, c.loop-number-test.false)) ∙ c.loop-number.invariant
