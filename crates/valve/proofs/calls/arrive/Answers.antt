use Rattle.valve.proofs.CallLaws.{arrive_refused, arrive_above, arrive_taken}
use Rattle.std.proofs.lemmas.Result.{err_from_is_err_and}
use Rattle.valve.proofs.calls.arrive.Goals as goal

pub returns-in_err-gate : goal.returns-in_err-gate
returns-in_err-gate c =
    let p = err_from_is_err_and c.from_residual.result c.from_residual.ensures.1 in
    rw (p.1, p.2) (arrive_refused _ _ _ c.in_err-gate.ensures)

pub returns-then-amount-gt-MAX : goal.returns-then-amount-gt-MAX
returns-then-amount-gt-MAX c = arrive_above _ _ c.in_ok-gate.ensures c.if-amount-gt-MAX.true

pub returns : goal.returns
returns c = arrive_taken _ _ _ c.in_ok-gate.ensures c.if-amount-gt-MAX.false c.put_record.ensures
