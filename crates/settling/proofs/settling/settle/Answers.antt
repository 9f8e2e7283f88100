use Rattle.settling.proofs.SettleLaws.{settle_short, settle_done}
use Rattle.model.specs.Tables.{Tables, sizes}
use Rattle.lent.specs.Lent.{of_lent}
use mathlib.Core.Path.{ap, ◌∙◌}
use native.Mathlib.Omega.{arith}
use Rattle.settling.proofs.settling.settle.Goals as goal

pub returns-then-out-number-clause-settles : goal.returns-then-out-number-clause-settles
returns-then-out-number-clause-settles c =
    let olds = ap (λ (t : Tables). t.labels) c.view-before.ensures in
    let news = ap (λ (t : Tables). t.labels) c.view-after.ensures in
    λ q. settle_short (of_lent c.args.register.now) (of_lent c.args.scratch.now) _ _ _ _ (rw (olds, news) at c.count_changes-number.ensures) _ c.if-out-number.true c.clear_tables.ensures.cleared

pub returns-clause-settles : goal.returns-clause-settles
returns-clause-settles c =
    let olds = ap (λ (t : Tables). t.labels) c.view-before.ensures in
    let news = ap (λ (t : Tables). t.labels) c.view-after.ensures in
    λ q. settle_done (of_lent c.args.register.now) (of_lent c.args.scratch.now) _ _ _ _ (rw (olds, news) at c.count_changes-number.ensures) _ _ _ (omega (arith, c.if-out-number.false)) (rw (olds, news) at c.put_changes.ensures)
    (λ e. c.copy_tables.ensures.copied (ap sizes c.view-after.ensures ∙ e) ∙ c.view-after.ensures) c.clear_tables-2.ensures.cleared q
