use Rattle.std.proofs.lemmas.Result.{err_from_is_err_and}
use Rattle.judging.proofs.Judged.{text_judged, stop_judged}
use Rattle.judging.proofs.verdict.judge.Goals as goal

pub returns-in_err-size : goal.returns-in_err-size
returns-in_err-size c =
    let passed = err_from_is_err_and c.from_residual.result c.from_residual.ensures.1 in
    rw (passed.1, passed.2) (stop_judged _ _ _ _ c.in_err-size.ensures.1)

pub returns : goal.returns
returns c = text_judged _ _ _ _ c.in_ok-size.ensures.1 c.compare_texts.ensures
