use Rattle.text.proofs.LineLaws.{stop_parts}
use Rattle.model.specs.Printing.{ascii}
use mathlib.Core.Path.{refl}
use Rattle.text.proofs.lines.put_stopped.Goals as goal

pub returns : goal.returns
unfolding ascii
returns c =
    stop_parts _ _ _ _ _ _ refl c.put_text-next.ensures c.put_line2.ensures
