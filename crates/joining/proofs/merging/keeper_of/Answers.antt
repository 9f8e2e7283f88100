use Rattle.joining.proofs.Merges.{second_keeps, first_keeps, neither_keeps, tie_keeps}
use mathlib.Core.Path.{sym, ◌∙◌}
use Rattle.joining.proofs.merging.keeper_of.Goals as goal

pub returns-then-degree_of-eq2 : goal.returns-then-degree_of-eq2
returns-then-degree_of-eq2 c = second_keeps _ _ _ _ (sym c.degree_of.ensures ∙ c.if-degree_of-eq2.true)

pub returns-then-degree_of-eq2-2 : goal.returns-then-degree_of-eq2-2
returns-then-degree_of-eq2-2 c =
    first_keeps _ _ _ _ (λ q. c.if-degree_of-eq2.false (c.degree_of.ensures ∙ q))
    (sym c.degree_of-2.ensures ∙ c.if-degree_of-eq2-2.true)

pub returns-then-meeting-eq0 : goal.returns-then-meeting-eq0
returns-then-meeting-eq0 c =
    neither_keeps _ _ _ _ (λ q. c.if-degree_of-eq2.false (c.degree_of.ensures ∙ q))
    (λ q. c.if-degree_of-eq2-2.false (c.degree_of-2.ensures ∙ q)) c.if-meeting-eq0.true

pub returns : goal.returns
returns c =
    tie_keeps _ _ _ _ (λ q. c.if-degree_of-eq2.false (c.degree_of.ensures ∙ q))
    (λ q. c.if-degree_of-eq2-2.false (c.degree_of-2.ensures ∙ q)) c.if-meeting-eq0.false
