use Rattle.theory.proofs.Registers.Equality.{tables_parts}
use Rattle.tables.specs.Steps.{zeroed}
use Rattle.clearing.proofs.whole.clear_tables.Goals as goal

pub returns-clause-cleared : goal.returns-clause-cleared
unfolding zeroed
returns-clause-cleared c =
    tables_parts (c.fill.ensures.after (λ _ e. e)) (c.fill-2.ensures.after (λ _ e. e)) (c.fill-3.ensures.after (λ _ e. e))
    (c.fill-4.ensures.after (λ _ e. e)) (c.fill-5.ensures.after (λ _ e. e)) (c.fill-6.ensures.after (λ _ e. e))
