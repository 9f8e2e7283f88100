use mathlib.Core.Path.{◌∙◌}
use Rattle.licence.proofs.OtherLaws.{held_told, pass_other, pass_own}
use Rattle.licence.proofs.others.passes_house.Goals as goal

pub returns-then-h-house-clause-tells : goal.returns-then-h-house-clause-tells
returns-then-h-house-clause-tells c = pass_own _ _ _ _ c.if-h-house.true

pub returns-clause-same : goal.returns-clause-same
returns-clause-same c = c.is_held.ensures.cleared ∙ c.requires.3

pub returns-clause-tells : goal.returns-clause-tells
returns-clause-tells c = pass_other _ _ _ _ _ _ c.if-h-house.false c.head_of-own.ensures
    (held_told _ _ _ _ c.requires.2 (rw c.part_of.ensures at c.is_held.ensures.tells))
