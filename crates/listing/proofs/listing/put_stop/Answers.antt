use Rattle.listing.proofs.Lines.{stop_at}
use Rattle.text.specs.Pages.{write}
use Rattle.model.specs.Printing.{stop_line}
use native.Mathlib.Omega.{arith}
use Rattle.listing.proofs.listing.put_stop.Goals as goal

pub returns-in-Whole : goal.returns-in-Whole
unfolding stop_line write
returns-in-Whole c = (rw c.in-Whole.is, omega arith)

pub returns-in-Stopped : goal.returns-in-Stopped
returns-in-Stopped c =
    (rw (c.in-Stopped.is, ← c.number-number.ensures) c.put_stopped.ensures, stop_at _ _ _ _ (omega arith) (omega (arith, c.number-number.type_inv)) c.put_stopped.ensures)
