use mathlib.Core.Path.{sym, ◌∙◌}
use native.Mathlib.Omega.{arith}
use Rattle.chains.proofs.SheetLaws.{sheet_count}
use Rattle.listing.proofs.Lines.{line_at}
use Rattle.listing.proofs.Whole.{listing_parts}
use Rattle.listing.proofs.listing.put_listing.Goals as goal

pub returns : goal.returns
returns c =
    (listing_parts _ _ _ _ _ _ _ _ (c.count_chains-chains.ensures ∙ sym (sheet_count _ _ _ _ _ _ _)) c.put_line4-sheet.ensures c.put_sheet_lines-next.ensures.0 c.put_stop.ensures.0, omega (arith, c.put_stop.ensures.1, c.put_sheet_lines-next.ensures.1, line_at _ _ _ _ (omega (arith, c.well_formed), (omega (arith, c.well_formed), (omega (arith, c.count_chains-chains.type_inv), (omega (arith, c.well_formed), tt)))) c.put_line4-sheet.ensures))
