use Rattle.planner.proofs.PlanLaws.{plan_34, plan_35, plan_unknown, plan_found, bounds}
use Rattle.planner.specs.Planning.{reply_of}
use native.Mathlib.Omega.{arith}
use mathlib.Core.Path.{sym, ap, ◌∙◌}
use Rattle.planner.proofs.planning.plan_change.Goals as goal

pub returns-then-out_of_bounds : goal.returns-then-out_of_bounds
returns-then-out_of_bounds c = plan_34 _ _ _ _ (sym c.out_of_bounds.ensures ∙ c.if-out_of_bounds.true)

pub returns-then-not-in_order : goal.returns-then-not-in_order
returns-then-not-in_order c = plan_35 _ _ _ _ (sym c.out_of_bounds.ensures ∙ c.if-out_of_bounds.false) (sym c.in_order.ensures ∙ c.if-not-in_order.true)

pub returns-then-volume-eq-UNKNOWN : goal.returns-then-volume-eq-UNKNOWN
returns-then-volume-eq-UNKNOWN c =
    plan_unknown _ _ _ _ (sym c.out_of_bounds.ensures ∙ c.if-out_of_bounds.false) (sym c.in_order.ensures ∙ c.if-not-in_order.false) c.if-volume-eq-UNKNOWN.true

pub transit_of-requires : goal.transit_of-requires
transit_of-requires c = (omega arith, (bounds _ _ _ (sym c.out_of_bounds.ensures ∙ c.if-out_of_bounds.false)).flow_least)

pub first_minute-requires : goal.first_minute-requires
first_minute-requires c =
    (c.transit_of.ensures.1, ((bounds _ _ _ (sym c.out_of_bounds.ensures ∙ c.if-out_of_bounds.false)).this_week, sym c.in_order.ensures ∙ c.if-not-in_order.false))

pub returns-in-Some : goal.returns-in-Some
returns-in-Some c =
    plan_found _ _ _ _ (sym c.out_of_bounds.ensures ∙ c.if-out_of_bounds.false) _ _ (sym c.in_order.ensures ∙ c.if-not-in_order.false) c.if-volume-eq-UNKNOWN.false c.transit_of.ensures.0 (ap reply_of c.in-Some.ensures)

pub returns-in-None : goal.returns-in-None
returns-in-None c =
    plan_found _ _ _ _ (sym c.out_of_bounds.ensures ∙ c.if-out_of_bounds.false) _ _ (sym c.in_order.ensures ∙ c.if-not-in_order.false) c.if-volume-eq-UNKNOWN.false c.transit_of.ensures.0 (ap reply_of c.in-None.ensures)
