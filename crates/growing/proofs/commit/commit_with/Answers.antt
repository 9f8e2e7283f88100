use mathlib.Core.Path.{refl, sym, ap, ◌∙◌}
use mathlib.Core.Bool.{false}
use Rattle.nursery.specs.Calls.{commits, own_slice}
use Rattle.licence.specs.Gate.{as_passed}
use Rattle.licence.proofs.PassLaws.{open_known}
use Rattle.licence.proofs.StepLaws.{is_grow}
use Rattle.licence.proofs.CallLaws.{barred_call}
use Rattle.growing.proofs.JoinLaws.{commit_joined}
use Rattle.growing.proofs.commit.commit_with.Goals as goal

pub commit_house-requires : goal.commit_house-requires
commit_house-requires c =
    let gates = rw c.view.ensures at c.pass_others-passed.ensures.gates in
    let k = open_known _ _ _ _ _ _ _ (ap as_passed (sym c.in-Ok.is) ∙ gates.0) in (k.0, k.1)

pub returns-in-Ok-clause-steps : goal.returns-in-Ok-clause-steps
returns-in-Ok-clause-steps c =
    let gates = rw c.view.ensures at c.pass_others-passed.ensures.gates in
    commit_joined _ _ _ _ _ _ _ _ _ _ _ (ap as_passed (sym c.in-Ok.is) ∙ gates.0) gates.1 c.commit_house.ensures.count _ c.commit_house.ensures.steps

pub returns-in-Err-clause-steps : goal.returns-in-Err-clause-steps
unfolding is_grow own_slice
returns-in-Err-clause-steps c =
    let gates = rw c.view.ensures at c.pass_others-passed.ensures.gates in
    barred_call _ _ _ _ _ _ false (commits _) _ refl (ap as_passed (sym c.in-Err.is) ∙ gates.0) gates.1
