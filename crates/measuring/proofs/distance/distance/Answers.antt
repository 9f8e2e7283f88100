use Rattle.std.proofs.Common.{rules}
use Rattle.std.proofs.lemmas.Result.{err_from_is_err_and}
use Rattle.licence.proofs.CallLaws.{asked_call, barred_call}
use Rattle.licence.proofs.PassLaws.{open_known}
use Rattle.licence.proofs.StepLaws.{is_grow}
use Rattle.nursery.specs.Calls.{measures, own_slice}
use Rattle.model.specs.Calls.{lent_to}
use mathlib.Core.Bool.{false}
use mathlib.Core.Path.{refl}
use Rattle.measuring.proofs.distance.distance.Goals as goal

pub head_of-own-requires : goal.head_of-own-requires
head_of-own-requires c = (open_known _ _ _ _ _ false _ c.in_ok-pass_others.ensures.gates.0).0

pub part_of-requires : goal.part_of-requires
part_of-requires c =
    let k = open_known _ _ _ _ _ false _ c.in_ok-pass_others.ensures.gates.0 in
    (k.0, k.1)

pub returns : goal.returns
returns c =
    let k = asked_call _ _ _ _ _ _ _ c.in_ok-pass_others.ensures.gates.0 c.pass_others.ensures.gates.1 _ c.head_of-own.ensures _ _ _ _
    (rw c.part_of.ensures at c.distance.ensures.answers _ _) in
    search rules

pub returns-in_err-pass_others : goal.returns-in_err-pass_others
unfolding is_grow own_slice lent_to
returns-in_err-pass_others c =
    let p = err_from_is_err_and c.from_residual.result c.from_residual.ensures.1 in
    let k = barred_call _ _ _ _ _ _ false (measures c.args.from.0 c.args.to.0) _ refl c.in_err-pass_others.ensures.gates.0 c.pass_others.ensures.gates.1 in
    rw (p.1, p.2) (search rules)
