use Rattle.tables.specs.Meaning.{tables}
use Rattle.committing.proofs.Commits.{commit_differs, commit_lands}
use Rattle.committing.proofs.quotes.commit_quote.Goals as goal

pub returns-then-not-same_quote : goal.returns-then-not-same_quote
returns-then-not-same_quote c =
    commit_differs (tables _ _ _ c.args.lengths.now c.args.volumes.now _) _ _ _ _ _ _ c.quote_edge-made.ensures c.same_quote.ensures c.if-not-same_quote.true

pub returns : goal.returns
returns c =
    commit_lands _ _ _ _ _ _ _ c.quote_edge-made.ensures c.same_quote.ensures _ _ c.if-not-same_quote.false c.land_edge.ensures
