use Rattle.std.proofs.lemmas.Result.{err_from_is_err_and}
use Rattle.rest.proofs.RestLaws.{rest_on, rest_refused}
use Rattle.insertion.specs.Meaning.{as_answer}
use mathlib.Core.Path.{ap}
use Rattle.rest.proofs.rest.land_rest.Goals as goal

pub returns-in_err-before-clause-lands : goal.returns-in_err-before-clause-lands
returns-in_err-before-clause-lands c =
    let p = err_from_is_err_and c.from_residual.result c.from_residual.ensures.1 in
    rw (p.1, p.2) (rest_refused _ _ _ _ _ _ _ _ c.replay.ensures.lands _ (ap as_answer c.in_err-before.was))

pub returns-clause-lands : goal.returns-clause-lands
returns-clause-lands c =
    rest_on _ _ _ _ _ _ _ _ c.replay.ensures.lands _ _ _ (ap as_answer c.in_ok-before.was) c.replay-2.ensures.lands
