use Rattle.model.specs.Format.{u16_at, byte_at}
use native.Mathlib.Omega.{arith}
use Rattle.list.proofs.bytes.u16_at.Goals as goal

pub returns : goal.returns
unfolding u16_at byte_at
returns c = omega (arith, c.from_le_bytes.ensures)
