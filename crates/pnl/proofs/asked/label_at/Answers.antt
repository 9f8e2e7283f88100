use Rattle.pnl.proofs.CallLaws.{asked_at}
use Rattle.questions.proofs.AnswerLaws.{find_beyond}
use Rattle.counters.proofs.Within.{within_is, within_none}
use Rattle.std.specs.Prelude.{◌≡◌, None}
use native.Mathlib.Omega.{arith}
use Rattle.pnl.proofs.asked.label_at.Goals as goal

pub returns-in_err-v : goal.returns-in_err-v
returns-in_err-v c =
    λ degrees sides ends lengths volumes counts register h.
    let gone : c.from_residual.result ≡ None = grind arith in
    rw gone (find_beyond _ _ register h _ (within_none _ _ c.in_err-v.ensures))

pub returns : goal.returns
returns c =
    λ degrees sides ends lengths volumes counts register h. asked_at _ _ _ _ _ _ _ register h _ _ _ (within_is _ _ _ _ c.in_ok-v.ensures) c.label_of.ensures
