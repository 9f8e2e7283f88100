use mathlib.Core.Path.{◌∙◌}
use Rattle.counters.proofs.QuoteLaws.{quotes_tell}
use Rattle.counters.proofs.quotes.same_quote.Goals as goal

pub returns : goal.returns
returns c = c.eq.ensures ∙ quotes_tell c.args.a c.args.b
