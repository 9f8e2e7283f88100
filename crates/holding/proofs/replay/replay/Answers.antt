use Rattle.std.proofs.lemmas.Result.{err_from_is_err_and}
use mathlib.Core.Path.{◌≡◌, refl, ap, sym, ◌∙◌}
use Prim.Native.Nat.{◌+◌, ◌-◌}
use native.Mathlib.Omega.{arith}
use Rattle.insertion.specs.Meaning.{as_answer}
use Rattle.holding.proofs.ReplayLaws.{replay_end, replay_on, replay_refused}
use Rattle.std.proofs.Common.{rules}
use Rattle.holding.proofs.replay.replay.Goals as goal

pub loop-edge-init : goal.loop-edge-init
loop-edge-init c =
    let all : c.args.first + c.args.number - c.args.first ≡ c.args.number = omega arith in (search rules, rw all refl)

pub returns-in_err-landed-clause-lands : goal.returns-in_err-landed-clause-lands
returns-in_err-landed-clause-lands c =
    let p = err_from_is_err_and c.from_residual.result c.from_residual.ensures.1 in
    rw (p.1, p.2)
    (replay_refused _ _ _ _ _ _ _ _ _ _ _ _ _ c.loop-edge-test.true c.at.ensures c.at-in-loop-edge.ensures c.at-in-loop-edge-2.ensures c.at-in-loop-edge-3.ensures _ c.land_edge.ensures _
    (ap as_answer c.in_err-landed.was) ∙ c.loop-edge.invariant.1)

pub loop-edge-preserved : goal.loop-edge-preserved
loop-edge-preserved c = (
  search rules,
  sym (replay_on _ _ _ _ _ _ _ _ _ _ _ _ _ c.loop-edge-test.true c.at.ensures c.at-in-loop-edge.ensures c.at-in-loop-edge-2.ensures c.at-in-loop-edge-3.ensures _ c.land_edge.ensures _ _
      (ap as_answer c.in_ok-landed.was)) ∙ c.loop-edge.invariant.1,
)

pub returns-clause-lands : goal.returns-clause-lands
returns-clause-lands c = replay_end _ _ _ _ _ _ _ _ (omega (arith, c.loop-edge-test.false)) ∙ c.loop-edge.invariant.1
