use Rattle.valve.proofs.CallLaws.{ask_refused, ask_answered}
use Rattle.valve.specs.Window.{records_of}
use Rattle.std.proofs.lemmas.Result.{err_from_is_err_and}
use Rattle.valve.proofs.calls.at_valve.Goals as goal

pub returns-in_err-gate : goal.returns-in_err-gate
returns-in_err-gate c =
    let p = err_from_is_err_and c.from_residual.result c.from_residual.ensures.1 in
    rw (p.1, p.2) (ask_refused _ _ _ c.in_err-gate.ensures)

pub returns : goal.returns
unfolding records_of
returns c = ask_answered _ _ _ c.in_ok-gate.ensures c.recipe_back.ensures
