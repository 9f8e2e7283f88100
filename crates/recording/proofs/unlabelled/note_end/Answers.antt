use Rattle.recording.specs.Unlabelled.{note_in}
use Rattle.recording.proofs.unlabelled.note_end.Goals as goal

pub returns : goal.returns
unfolding note_in
returns c =
    rw (← c.degree_of-degree.ensures, ← c.place_for-place.ensures.0) c.put.ensures
