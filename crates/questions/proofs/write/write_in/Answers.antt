use native.Mathlib.Omega.{arith}
use Rattle.questions.proofs.WritingLaws.{write_short, write_whole}
use Rattle.questions.proofs.write.write_in.Goals as goal

pub returns-then-out-size : goal.returns-then-out-size
returns-then-out-size c = write_short _ _ _ _ _ _ c.list_bytes-size.ensures (omega (arith, c.if-out-size.true))

pub returns : goal.returns
returns c =
    write_whole _ _ _ _ _ _ c.list_bytes-size.ensures _ _ (omega (arith, c.if-out-size.false)) c.put_list.ensures
