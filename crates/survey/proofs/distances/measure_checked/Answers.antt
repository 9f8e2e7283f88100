use Rattle.counters.proofs.Within.{within_is, within_none}
use native.Mathlib.Omega.{arith}
use Rattle.questions.proofs.Measuring.{measure_first, measure_second}
use Rattle.survey.proofs.distances.measure_checked.Goals as goal

pub returns-in_default : goal.returns-in_default
returns-in_default c =
    let large = within_none _ _ c.in_default.ensures in
    λ degrees sides volumes labels. measure_first _ _ _ _ (omega (arith, c.requires.1, large))

pub returns-in_default-new : goal.returns-in_default-new
returns-in_default-new c =
    let large = within_none _ _ c.in_default-new.ensures in
    λ degrees sides volumes labels. measure_second _ _ _ _ (omega (arith, c.requires.1, large))

pub returns : goal.returns
returns c =
    let start = within_is _ _ _ _ c.in-Some.ensures in
    let goal = within_is _ _ _ _ c.in-Some-new.ensures in
    λ degrees sides volumes labels. rw (start, goal) at (c.distance_in.ensures degrees sides volumes labels)
