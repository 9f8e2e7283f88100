use mathlib.Core.List.{[]}
use mathlib.Core.Path.{◌≡◌, sym, ap, ◌∙◌}
use mathlib.Core.Logic.{◌≢◌}
use Rattle.std.proofs.Common.{arith, rules}
use Rattle.counters.specs.Refusals.{number_of}
use Rattle.sharing.proofs.ShareLaws.{eight_shares, gate_bars, never_open, shares_done, wrong_number}
use Rattle.licence.specs.Gate.{as_passed, bars_with}
use Rattle.sharing.proofs.shares.set_shares.Goals as goal

pub returns-then-asked-ne8 : goal.returns-then-asked-ne8
returns-then-asked-ne8 c = wrong_number _ _ _ _ _ c.if-asked-ne8.true

pub returns-then-ne : goal.returns-then-ne
returns-then-ne c =
    let d : number_of c.in-Err.refusal ≢ 37 = grind arith in
    let k = gate_bars _ _ _ _ _ c.if-asked-ne8.false _ _ (ap as_passed (sym c.in-Err.is) ∙ c.pass_others.ensures.gates.0) d c.pass_others.ensures.gates.1 in
    search rules

pub allot-requires : goal.allot-requires
allot-requires c =
    let d : 37 ≡ number_of c.in-Err.refusal = grind arith in
    (eight_shares _ _ _ _ c.args.asked.now c.if-asked-ne8.false (ap bars_with d ∙ ap as_passed (sym c.in-Err.is) ∙ c.pass_others.ensures.gates.0), c.if-asked-ne8.false)

pub returns-in-Ok : goal.returns-in-Ok
returns-in-Ok c =
    absurd (never_open _ _ _ _ [] _ (ap as_passed (sym c.in-Ok.is) ∙ c.pass_others.ensures.gates.0))

pub returns-else-ne : goal.returns-else-ne
returns-else-ne c =
    let d : 37 ≡ number_of c.in-Err.refusal = grind arith in
    let k = shares_done _ _ _ _ _ c.if-asked-ne8.false _ _ _ (ap bars_with d ∙ ap as_passed (sym c.in-Err.is) ∙ c.pass_others.ensures.gates.0) c.pass_others.ensures.gates.1 c.allot.ensures in
    search rules
