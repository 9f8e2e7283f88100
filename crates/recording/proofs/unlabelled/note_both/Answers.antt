use Rattle.recording.specs.Unlabelled.{note_both_in}
use Rattle.recording.proofs.unlabelled.note_both.Goals as goal

pub returns : goal.returns
unfolding note_both_in
returns c =
    (c.raise_both.ensures, rw (← c.note_end.ensures) c.note_end-2.ensures)
