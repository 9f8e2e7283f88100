use Rattle.removing.proofs.RemoveLaws.{gated, remove_done, remove_refused}
use Rattle.admission.proofs.GateLaws.{query_refused}
use Rattle.admission.specs.Own.{register_for}
use Rattle.nursery.specs.Calls.{removes, own_slice}
use Rattle.std.proofs.Common.{rules}
use mathlib.Core.Path.{refl}
use Rattle.removing.proofs.own.remove_own.Goals as goal

pub returns-in-Err-clause-steps : goal.returns-in-Err-clause-steps
unfolding register_for own_slice
returns-in-Err-clause-steps c =
    let g = gated _ _ _ _ _ _ c.view.ensures c.in-Err.ensures.gates in
    λ limit. query_refused limit _ (removes _ _) _ refl _ _ g.0 g.1

pub returns-then-not_removable-clause-steps : goal.returns-then-not_removable-clause-steps
returns-then-not_removable-clause-steps c =
    let g = gated _ _ _ _ _ _ c.view.ensures c.in_default.ensures.gates in
    λ limit. remove_refused limit _ _ _ _ _ _ _ _ g.0 g.1 c.not_removable.ensures.0 c.if-not_removable.true

pub returns-clause-steps : goal.returns-clause-steps
returns-clause-steps c =
    let g = gated _ _ _ _ _ _ c.view.ensures c.in_default.ensures.gates in
    λ limit.
    let k = remove_done limit _ _ _ _ _ _ _ _ g.0 g.1 c.not_removable.ensures.0 c.if-not_removable.false _ c.take_out.ensures.takes in
    search rules
