use Rattle.listing.proofs.Lines.{row_at}
use native.Mathlib.Omega.{arith}
use Rattle.listing.proofs.listing.put_chain_line.Goals as goal

pub returns : goal.returns
returns c =
    (c.put_row_line.ensures, row_at _ _ _ _ _ _ _ _ (omega (arith, c.well_formed), (omega (arith, c.well_formed), (omega (arith, c.well_formed), (omega (arith, c.well_formed), (omega (arith, c.well_formed), (omega (arith, c.well_formed), tt)))))) c.put_row_line.ensures)
