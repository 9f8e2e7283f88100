use mathlib.Core.Path.{refl, sym, ◌∙◌}
use native.Mathlib.Nat.{sub-zero, zero-add}
use native.Mathlib.Omega.{arith}
use Rattle.counting.proofs.Laws.{moved_le, count_step, count_done, count_stop}
use Rattle.counting.proofs.counts.count_relabelled.Goals as goal

pub loop-init : goal.loop-init
loop-init c = (omega arith, rw (sub-zero, zero-add) refl)

pub overflow_add-count : goal.overflow_add-count
overflow_add-count c =
    let m = moved_le _ _ _ c.moved-count.ensures in
    omega (arith, m, c.loop.invariant.0, c.loop-test.true, c.ranges.fuel.fits)

pub loop-preserved : goal.loop-preserved
loop-preserved c =
    let m = moved_le _ _ _ c.moved-count.ensures in (
      omega (arith, m, c.loop.invariant.0),
      sym (count_step _ _ _ _ _ _ _ _ _ _ _ _ _ _ _ c.loop-test.true (sym c.degree_of.ensures ∙ c.if-degree_of-ne2.false)
          c.step_over-on.ensures.0 c.step_over-on.ensures.1 c.next_label-next.ensures c.moved-count.ensures) ∙ c.loop.invariant.1,
    )

pub returns-after-loop : goal.returns-after-loop
returns-after-loop c = count_done _ _ _ _ _ _ _ _ _ _ _ (omega (arith, c.loop-test.false)) c.loop.invariant.1

pub returns-then-degree_of-ne2 : goal.returns-then-degree_of-ne2
returns-then-degree_of-ne2 c = count_stop _ _ _ _ _ _ _ _ _ _ _ (λ e. c.if-degree_of-ne2.true (c.degree_of.ensures ∙ e)) c.loop.invariant.1
