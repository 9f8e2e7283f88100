use Rattle.labels.proofs.Labels.{extend_on, extend_begun}
use mathlib.Core.Path.{sym, ◌∙◌}
use Rattle.labels.proofs.labelling.extend_chain.Goals as goal

pub returns-then-degree_of-eq2 : goal.returns-then-degree_of-eq2
returns-then-degree_of-eq2 c =
    extend_on _ _ _ _ _ _ _ _ _ _ _ c.leave_leaf-w.ensures (sym c.degree_of.ensures ∙ c.if-degree_of-eq2.true) c.label_beyond.ensures

pub returns : goal.returns
returns c =
    extend_begun _ _ _ _ _ _ _ _ _ _ _ c.leave_leaf-w.ensures _ _ _ (λ e. c.if-degree_of-eq2.false (c.degree_of.ensures ∙ e)) c.one_more16-k.ensures c.base.ensures c.label_vertex.ensures
