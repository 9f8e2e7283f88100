use Rattle.planner.proofs.WeekLaws.{first_end, first_cut, first_here, first_next}
use native.Mathlib.Omega.{arith}
use mathlib.Core.Path.{sym, ◌∙◌}
use Rattle.planner.proofs.windows.first_in.Goals as goal

pub returns-in_default : goal.returns-in_default
returns-in_default c =
    let steps = c.in-Some.ensures.steps in
    let length = rw c.loop-window.invariant.in_pairs at steps.1.1 in
    first_cut _ _ _ c.requires steps.1.2 (omega (arith, c.in_default.len_below)) ∙ c.loop-window.invariant.rest_decides

pub returns-then-ends_by : goal.returns-then-ends_by
returns-then-ends_by c =
    first_here _ _ _ c.in-Some.window.now _ _ c.in-Some.ensures.steps.1.0 (omega arith) c.max-begin.ensures (sym c.if-ends_by.true ∙ c.ends_by.ensures)
    ∙ c.loop-window.invariant.rest_decides

pub loop-window-preserved : goal.loop-window-preserved
loop-window-preserved c =
    record {
      in_pairs = c.in-Some.ensures.steps.0 ∙ c.loop-window.invariant.in_pairs;
      rest_decides =
          sym (first_next _ _ _ c.in-Some.window.now _ _ c.in-Some.ensures.steps.1.0 (omega arith) c.max-begin.ensures (sym c.if-ends_by.false ∙ c.ends_by.ensures))
          ∙ c.loop-window.invariant.rest_decides;
    }

pub returns : goal.returns
returns c = first_end _ _ _ c.in-None.ensures.steps.1.0 ∙ c.loop-window.invariant.rest_decides
