use mathlib.Core.Path.{sym, ◌∙◌}
use native.Mathlib.Nat.{sub-zero}
use native.Mathlib.Omega.{arith}
use Rattle.labels.proofs.Labels.{relabel_none, relabel_end, loop_end, loop_step, label_le, ahead_none}
use Rattle.labels.proofs.labelling.relabel_chain.Goals as goal

pub loop-init : goal.loop-init
loop-init c = (omega arith, rw sub-zero (sym (ahead_none _)))

pub overflow_add-count : goal.overflow_add-count
overflow_add-count c =
    let m = label_le _ _ _ _ _ _ _ _ _ _ c.label_vertex-count.ensures in
    omega (arith, m, c.loop.invariant.0, c.loop-test.true, c.ranges.fuel.fits)

pub loop-preserved : goal.loop-preserved
loop-preserved c =
    let h = sym c.degree_of.ensures ∙ c.if-degree_of-ne2.false in
    let g = c.label_vertex-count.ensures in
    let m = label_le _ _ _ _ _ _ _ _ _ _ g in (
      omega (arith, m, c.loop.invariant.0),
      sym (loop_step _ _ _ _ _ _ _ _ _ _ _ _ _ _ _ _ _ c.loop-test.true h
          c.step_over-on.ensures.0 c.step_over-on.ensures.1 c.next_label-next.ensures g) ∙ c.loop.invariant.1,
    )

pub returns-after-loop : goal.returns-after-loop
returns-after-loop c = loop_end _ _ _ _ (relabel_none _ _ _ _ _ _ _ _ _ (omega (arith, c.loop-test.false))) ∙ c.loop.invariant.1

pub returns-then-degree_of-ne2 : goal.returns-then-degree_of-ne2
returns-then-degree_of-ne2 c =
    loop_end _ _ _ _ (relabel_end _ _ _ _ _ _ _ _ _ (λ e. c.if-degree_of-ne2.true (c.degree_of.ensures ∙ e))) ∙ c.loop.invariant.1
