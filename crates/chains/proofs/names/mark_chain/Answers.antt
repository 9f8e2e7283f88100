use mathlib.Core.Path.{sym, ◌∙◌}
use Rattle.chains.proofs.NameLaws.{chain_round, chain_both}
use Rattle.chains.proofs.names.mark_chain.Goals as goal

pub returns-then-degree_of-eq2 : goal.returns-then-degree_of-eq2
returns-then-degree_of-eq2 c =
    chain_round _ _ _ _ _ _ _ _ _ _ c.first_end-first.ensures c.second_end-second.ensures c.mark_onwards-end.ensures (sym c.degree_of.ensures ∙ c.if-degree_of-eq2.true)

pub returns : goal.returns
returns c =
    chain_both _ _ _ _ _ _ _ _ _ _ c.first_end-first.ensures c.second_end-second.ensures c.mark_onwards-end.ensures (λ e. c.if-degree_of-eq2.false (c.degree_of.ensures ∙ e)) _ _ c.mark_onwards.ensures
