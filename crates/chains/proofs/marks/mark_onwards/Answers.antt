use mathlib.Core.Path.{sym, ◌∙◌}
use native.Mathlib.Omega.{arith}
use Rattle.chains.proofs.NameLaws.{mark_none, mark_stop, mark_step}
use Rattle.chains.proofs.marks.mark_onwards.Goals as goal

pub loop-preserved : goal.loop-preserved
loop-preserved c =
    sym (mark_step _ _ _ _ _ _ _ _ _ _ _ _ c.loop-test.true (sym c.goes_on.ensures ∙ c.if-not-goes_on.false)
    c.step_over-w.ensures.0 c.step_over-w.ensures.1 c.put_mark.ensures) ∙ c.loop.invariant

pub returns-after-loop : goal.returns-after-loop
returns-after-loop c = mark_none _ _ _ _ _ _ _ _ (omega (arith, c.loop-test.false)) ∙ c.loop.invariant

pub returns-then-not-goes_on : goal.returns-then-not-goes_on
returns-then-not-goes_on c = mark_stop _ _ _ _ _ _ _ _ (sym c.goes_on.ensures ∙ c.if-not-goes_on.true) ∙ c.loop.invariant
