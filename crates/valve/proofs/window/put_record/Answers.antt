use Rattle.valve.proofs.LoopLaws.{put_law}
use Rattle.valve.proofs.window.put_record.Goals as goal

pub returns : goal.returns
returns c =
    put_law _ _ _ _ _ _ _ _ _ _ _ _ c.at.ensures c.saturating_sub-rest.ensures c.put.ensures c.put-2.ensures c.slot_after.ensures c.add32.ensures
