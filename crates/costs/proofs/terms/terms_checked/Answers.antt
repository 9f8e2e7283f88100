use native.Mathlib.Omega.{arith}
use Rattle.counters.proofs.Within.{within_is, within_none}
use Rattle.costs.proofs.QuoteLaws.{beyond, first_beyond, second_beyond, terms_read}
use Rattle.costs.proofs.terms.terms_checked.Goals as goal

pub returns-in_default : goal.returns-in_default
returns-in_default c =
    let large = within_none _ _ c.in_default.ensures in
    λ lengths volumes register h. first_beyond register _ (beyond _ _ _ _ _ _ _ register h _ (omega (arith, large)))

pub returns-in_default-new : goal.returns-in_default-new
returns-in_default-new c =
    let large = within_none _ _ c.in_default-new.ensures in
    λ lengths volumes register h. second_beyond register _ (beyond _ _ _ _ _ _ _ register h _ (omega (arith, large)))

pub returns : goal.returns
returns c =
    let one = within_is _ _ _ _ c.in-Some.ensures in
    let other = within_is _ _ _ _ c.in-Some-new.ensures in
    λ lengths volumes register h. terms_read _ _ _ _ _ _ _ register h _ _ _ _ _ _ _ one other c.quote_edge-made.ensures
