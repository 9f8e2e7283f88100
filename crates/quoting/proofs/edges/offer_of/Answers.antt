use Rattle.quoting.proofs.Quotes.{terms_ring, terms_case}
use Rattle.quoting.proofs.edges.offer_of.Goals as goal

pub returns-then-estimate : goal.returns-then-estimate
returns-then-estimate c = terms_ring _ _ _ c.if-estimate.true

pub returns : goal.returns
returns c = terms_case _ _ _ _ c.if-estimate.false c.quoted_case.ensures
