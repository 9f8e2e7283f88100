use native.Mathlib.Omega.{arith}
use mathlib.Core.Path.{sym, ◌∙◌}
use Rattle.sharing.proofs.ShareLaws.{all_set, not_empty, too_much}
use Rattle.sharing.proofs.shares.allot.Goals as goal

pub returns-then-sum_of : goal.returns-then-sum_of
returns-then-sum_of c = too_much _ _ _ (omega (arith, c.if-sum_of.true, c.sum_of.ensures))

pub returns-then-any_landed : goal.returns-then-any_landed
returns-then-any_landed c = not_empty _ _ _ (sym c.if-any_landed.true ∙ c.any_landed.ensures)

pub returns : goal.returns
returns c =
    all_set _ _ _ _ (omega (arith, c.if-sum_of.false, c.sum_of.ensures)) (sym c.any_landed.ensures ∙ c.if-any_landed.false) c.copy_from_slice.ensures.after
