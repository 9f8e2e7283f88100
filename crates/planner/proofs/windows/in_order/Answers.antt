use Rattle.planner.proofs.WindowLaws.{in_order_all, in_order_cut, in_order_no, in_order_next}
use native.Mathlib.Omega.{arith}
use mathlib.Core.Path.{sym, ◌∙◌}
use Rattle.planner.proofs.windows.in_order.Goals as goal

pub returns-in_default : goal.returns-in_default
returns-in_default c =
    let steps = c.in-Some.ensures.steps in
    let length = rw c.loop-window.invariant.in_pairs at steps.1.1 in
    in_order_cut _ _ steps.1.2 (omega (arith, c.in_default.len_below)) ∙ c.loop-window.invariant.rest_decides

pub returns-then-not-follows_on : goal.returns-then-not-follows_on
returns-then-not-follows_on c =
    in_order_no _ _ c.in-Some.window.now _ c.in-Some.ensures.steps.1.0 (omega arith) (sym c.if-not-follows_on.true ∙ c.follows_on.ensures)
    ∙ c.loop-window.invariant.rest_decides

pub loop-window-preserved : goal.loop-window-preserved
loop-window-preserved c =
    record {
      in_pairs = c.in-Some.ensures.steps.0 ∙ c.loop-window.invariant.in_pairs;
      rest_decides =
          sym (in_order_next _ _ c.in-Some.window.now _ c.in-Some.ensures.steps.1.0 (omega arith) (sym c.if-not-follows_on.false ∙ c.follows_on.ensures))
          ∙ c.loop-window.invariant.rest_decides;
    }

pub returns : goal.returns
returns c = in_order_all _ _ c.in-None.ensures.steps.1.0 ∙ c.loop-window.invariant.rest_decides
