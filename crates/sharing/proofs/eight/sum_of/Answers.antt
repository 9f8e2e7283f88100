use Rattle.std.proofs.Common.{rules, ◌≡◌, ◌∙◌, sum}
use Rattle.std.proofs.iter.runs.Sources.{sums}
use Rattle.sharing.proofs.EightLaws.{sum_is}
use Rattle.sharing.proofs.eight.sum_of.Goals as goal

pub sum-requires-clause-fits : goal.sum-requires-clause-fits
sum-requires-clause-fits c = search (rules, sums)

pub returns : goal.returns
returns c = let e : c.sum.result ≡ sum c.args.shares.now = search rules in e ∙ sum_is c.args.shares.now
