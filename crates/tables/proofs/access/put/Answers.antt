use mathlib.Core.Path.{sym}
use lib.Seq.{set_out}
use Rattle.tables.proofs.access.put.Goals as goal

pub returns-else-i-xs : goal.returns-else-i-xs
returns-else-i-xs g c = sym (set_out _ _ _ c.if-i-xs.false)
