use mathlib.Core.Path.{refl}
use Rattle.text.proofs.ByteLaws.{header_law}
use Rattle.text.proofs.records.put_header.Goals as goal

pub returns : goal.returns
returns c = header_law _ _ _ _ refl c.put_text-next.ensures c.put_u16.ensures
