use Rattle.listing.proofs.Whole.{too_long, prints}
use Rattle.model.specs.Tables.{cleared}
use Rattle.model.specs.Printing.{ascii}
use native.Mathlib.Omega.{arith}
use mathlib.Core.Path.{refl}
use Rattle.listing.proofs.listing.print_list.Goals as goal

pub returns-then-list-gt-MAX_LIST : goal.returns-then-list-gt-MAX_LIST
unfolding ascii
returns-then-list-gt-MAX_LIST c =
    too_long _ _ _ _ c.if-list-gt-MAX_LIST.true c.requires refl c.put_text.ensures

pub returns : goal.returns
unfolding cleared
returns c =
    prints _ _ _ _ (omega (arith, c.if-list-gt-MAX_LIST.false)) c.requires c.grow_list-reading.ensures c.put_listing.ensures.0 c.put_listing.ensures.1
