use Rattle.text.proofs.ByteLaws.{bytes2_are}
use Rattle.text.proofs.bytes.put_u16.Goals as goal

pub returns : goal.returns
returns c = rw (← bytes2_are c.args.n, ← c.to_le_bytes.ensures) c.put_text.ensures
