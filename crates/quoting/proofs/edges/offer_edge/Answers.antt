use Rattle.quoting.proofs.Quotes.{offered}
use Rattle.model.specs.Cases.{case_of, class_of}
use mathlib.Core.Path.{◌∙◌, ap, ap₂}
use Rattle.quoting.proofs.edges.offer_edge.Goals as goal

pub returns : goal.returns
returns c =
    offered _ _ _ _ _ _ _ _ _ _ _ _ _
    (c.case_of-case.ensures ∙ ap₂ case_of (ap class_of c.degree_of.ensures) (c.class_of.ensures ∙ ap class_of c.degree_of-2.ensures))
    c.work_of-work.ensures c.plan_work-plan.ensures c.count_planned-estimate.ensures c.offer_of-offer.ensures
