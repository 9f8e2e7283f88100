use Rattle.recording.proofs.UnlabelledLaws.{note_done}
use Rattle.recording.proofs.unlabelled.note_edge.Goals as goal

pub returns : goal.returns
returns c =
    note_done _ _ _ _ _ _ _ _ _ _ _ _ _ _ _ _ _ _ _ _ c.note_both.ensures.0 c.note_both.ensures.1
    c.record_edge.ensures.0 c.record_edge.ensures.1 c.record_edge.ensures.2 c.one_more16.ensures
