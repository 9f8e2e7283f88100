use mathlib.Core.Path.{◌≡◌, ap, sym, ◌∙◌}
use native.Mathlib.Nat.{sub-zero}
use native.Mathlib.Omega.{arith}
use Rattle.tables.specs.Walks.{met}
use Rattle.tables.proofs.Lockstep.{lockstep_none, lockstep_first, lockstep_second, loop_end, loop_step, ahead_none}
use Rattle.tables.proofs.walks.walk_lockstep.Goals.{then-degree_of-ne2-via-then-degree_of-ne2, then-degree_of-ne2-via-else-degree_of-ne2+then-degree_of-ne2-2}
use Rattle.tables.proofs.walks.walk_lockstep.Goals as goal

pub loop-steps-init : goal.loop-steps-init
loop-steps-init c = rw sub-zero (sym (ahead_none _))

pub loop-steps-preserved : goal.loop-steps-preserved
loop-steps-preserved c =
    let h = sym c.degree_of.ensures ∙ c.if-degree_of-ne2.false in
    let g = sym c.degree_of-else-degree_of-ne2.ensures ∙ c.if-degree_of-ne2-2.false in
    sym (loop_step _ _ _ _ _ _ _ _ _ _ _ _ _ c.loop-steps-test.true h g
    c.step_over-v.ensures.0 c.step_over-v.ensures.1 c.step_over-w.ensures.0 c.step_over-w.ensures.1) ∙ c.loop-steps.invariant

pub returns-then-degree_of-ne2 : goal.returns-then-degree_of-ne2
returns-then-degree_of-ne2 c =
    elim c.then-degree_of-ne2.branch [
      | then-degree_of-ne2-via-then-degree_of-ne2 w ↦
          loop_end _ _ _ _ (lockstep_first _ _ _ _ _ _ _ _ (λ e. w.if-degree_of-ne2.true (c.degree_of.ensures ∙ e))) ∙ c.loop-steps.invariant
      | then-degree_of-ne2-via-else-degree_of-ne2+then-degree_of-ne2-2 w ↦
          loop_end _ _ _ _ (lockstep_second _ _ _ _ _ _ _ _ (sym c.degree_of.ensures ∙ w.if-degree_of-ne2.false)
          (λ e. w.if-degree_of-ne2-2.true (w.degree_of-else-degree_of-ne2.ensures ∙ e))) ∙ c.loop-steps.invariant
    ]

pub returns : goal.returns
returns c =
    let last : c.args.fuel ≡ c.loop-steps.steps = omega (arith, c.loop-steps-test.false) in
    ap (met _ _) last ∙ loop_end _ _ _ _ (lockstep_none _ _ _ _ _ _ _ _ (omega (arith, c.loop-steps-test.false))) ∙ c.loop-steps.invariant
