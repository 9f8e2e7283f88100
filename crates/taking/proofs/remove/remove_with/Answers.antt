use Rattle.taking.proofs.JoinLaws.{remove_joined, viewed}
use Rattle.licence.proofs.CallLaws.{barred_call}
use Rattle.licence.proofs.PassLaws.{open_known}
use Rattle.licence.proofs.StepLaws.{is_grow}
use Rattle.nursery.specs.Calls.{removes, own_slice}
use mathlib.Core.Bool.{false}
use mathlib.Core.Path.{refl}
use Rattle.taking.proofs.remove.remove_with.Goals as goal

pub remove_house-requires : goal.remove_house-requires
remove_house-requires c =
    let g = viewed _ _ _ _ _ _ _ _ c.view.ensures c.in-Ok.ensures.gates in
    let k = open_known _ _ _ _ _ _ _ g.0 in (k.0, k.1)

pub returns-in-Ok-clause-takes : goal.returns-in-Ok-clause-takes
returns-in-Ok-clause-takes c =
    let g = viewed _ _ _ _ _ _ _ _ c.view.ensures c.in-Ok.ensures.gates in
    remove_joined _ _ _ _ _ _ _ _ _ _ _ _ _ g.0 g.1 c.remove_house.result.answer (c.remove_house.ensures.steps _) c.remove_house.ensures.count

pub returns-in-Err-clause-takes : goal.returns-in-Err-clause-takes
unfolding is_grow own_slice
returns-in-Err-clause-takes c =
    let g = viewed _ _ _ _ _ _ _ _ c.view.ensures c.in-Err.ensures.gates in
    barred_call _ _ _ _ _ _ false (removes _ _) _ refl g.0 g.1
