use Rattle.std.proofs.lemmas.Result.{err_from_is_err_and}
use Rattle.recording.proofs.UnlabelledLaws.{record_passed, record_failed}
use Rattle.recording.proofs.unlabelled.land_unlabelled.Goals as goal

pub returns-in_err-edge : goal.returns-in_err-edge
returns-in_err-edge c =
    let p = err_from_is_err_and c.from_residual.result c.from_residual.ensures.1 in
    rw (p.1, p.2) (record_failed _ _ _ _ _ _ c.in_err-edge.ensures)

pub returns : goal.returns
returns c = record_passed _ _ _ _ _ _ _ _ _ _ _ c.in_ok-edge.ensures c.note_edge.ensures
