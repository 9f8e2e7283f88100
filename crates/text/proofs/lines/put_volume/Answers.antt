use mathlib.Core.Path.{refl}
use Rattle.text.proofs.LineLaws.{volume_known, volume_unknown}
use Rattle.text.proofs.lines.put_volume.Goals as goal

pub returns-then-volume-eq0 : goal.returns-then-volume-eq0
returns-then-volume-eq0 c = volume_unknown _ _ _ _ c.if-volume-eq0.true refl c.put_text.ensures

pub returns : goal.returns
returns c = volume_known _ _ _ c.if-volume-eq0.false c.put_field.ensures
