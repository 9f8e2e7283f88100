use Rattle.std.proofs.Common.{rules, tests, ◌≡◌, ◌≢◌}
use Rattle.std.proofs.lemmas.Iterator.{cases_from_any, YieldsList-from_slice}
use Rattle.sharing.proofs.EightLaws.{any_is}
use Rattle.sharing.proofs.eight.any_landed.Goals as goal

pub returns : goal.returns
returns c =
    any_is c.args.heads _ (search rules) (
    cases_from_any _ _ _ (λ own. own.vertices ≢ 0) (λ own. own.vertices ≡ 0) c.any.ensures.ran (YieldsList-from_slice c.args.heads.counts cc) (λ x q k. search (rules, tests)) (λ x q k. search (rules, tests))
    )
