use Rattle.quoting.proofs.Quotes.{quote_checked, intent_checked, intent_passed}
use mathlib.Core.Path.{◌∙◌, refl}
use Rattle.quoting.proofs.edges.prepare_edge.Goals as goal

pub returns-in-Ok : goal.returns-in-Ok
returns-in-Ok c =
    let is = c.in-Ok.is in
    let passes = c.check_edge-checked.ensures in
    let made = c.offer_edge-offered.ensures in
    (c.quote_with-quote.ensures ∙ quote_checked _ _ _ _ _ _ _ _ _ is passes _ _ made.0, intent_passed _ _ _ _ _ _ _ _ _ _ is passes made.1)

pub returns-in-Err : goal.returns-in-Err
returns-in-Err c =
    let is = c.in-Err.is in
    let fails = c.check_edge-checked.ensures in
    (c.quote_with-quote-in-Err.ensures ∙ quote_checked _ _ _ _ _ _ _ _ _ is fails _ _ refl, intent_checked _ _ _ _ _ _ _ _ _ is fails _ refl)
