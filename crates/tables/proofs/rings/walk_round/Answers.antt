use mathlib.Core.Path.{sym, ◌∙◌}
use native.Mathlib.Omega.{arith}
use Rattle.tables.proofs.Rounds.{round_none, round_first, round_second, round_back, round_step}
use Rattle.tables.proofs.rings.walk_round.Goals.{then-degree_of-ne2-via-then-degree_of-ne2, then-degree_of-ne2-via-else-degree_of-ne2+then-degree_of-ne2-2}
use Rattle.tables.proofs.rings.walk_round.Goals as goal

pub returns-then-degree_of-ne2 : goal.returns-then-degree_of-ne2
returns-then-degree_of-ne2 c =
    elim c.then-degree_of-ne2.branch [
      | then-degree_of-ne2-via-then-degree_of-ne2 w ↦
          round_first _ _ _ _ _ _ _ _ _ _ _ _ (λ e. w.if-degree_of-ne2.true (c.degree_of.ensures ∙ e)) ∙ c.loop-steps.invariant
      | then-degree_of-ne2-via-else-degree_of-ne2+then-degree_of-ne2-2 w ↦
          round_second _ _ _ _ _ _ _ _ _ _ _ _ (sym c.degree_of.ensures ∙ w.if-degree_of-ne2.false)
          (λ e. w.if-degree_of-ne2-2.true (w.degree_of-else-degree_of-ne2.ensures ∙ e)) ∙ c.loop-steps.invariant
    ]

pub returns-then-x-v : goal.returns-then-x-v
returns-then-x-v c =
    let h = sym c.degree_of.ensures ∙ c.if-degree_of-ne2.false in
    let g = sym c.degree_of-else-degree_of-ne2.ensures ∙ c.if-degree_of-ne2-2.false in
    c.back_after.ensures ∙ round_back _ _ _ _ _ _ _ _ _ _ _ _ (omega (arith, c.loop-steps-test.true)) h g c.if-x-v.true ∙ c.loop-steps.invariant

pub loop-steps-preserved : goal.loop-steps-preserved
loop-steps-preserved c =
    let h = sym c.degree_of.ensures ∙ c.if-degree_of-ne2.false in
    let g = sym c.degree_of-else-degree_of-ne2.ensures ∙ c.if-degree_of-ne2-2.false in
    sym (round_step _ _ _ _ _ _ _ _ _ _ _ _ _ _ _ _ _ c.loop-steps-test.true h g c.if-x-v.false c.meets-met.ensures
    c.step_over-x.ensures.0 c.step_over-x.ensures.1 c.step_over-y.ensures.0 c.step_over-y.ensures.1) ∙ c.loop-steps.invariant

pub returns : goal.returns
returns c = round_none _ _ _ _ _ _ _ _ _ _ _ _ (omega (arith, c.loop-steps-test.false)) ∙ c.loop-steps.invariant
