use Rattle.licence.proofs.PassLaws.{limit_left, no_house, sum_passes}
use mathlib.Core.Path.{refl}
use Rattle.licence.proofs.gate.pass_licence.Goals as goal

pub returns-then-licence-others : goal.returns-then-licence-others
returns-then-licence-others c =
    sum_passes _ _ _ _ c.requires _ _ c.others_reserve-others.ensures.0 c.own_reserve-own.ensures.0 c.if-licence-others.true

pub returns-then-house-gt7 : goal.returns-then-house-gt7
returns-then-house-gt7 c =
    no_house _ _ _ _ c.requires _ _ c.others_reserve-others.ensures.0 c.own_reserve-own.ensures.0 c.if-licence-others.false c.if-house-gt7.true

pub returns : goal.returns
returns c =
    limit_left _ _ _ _ c.requires _ _ c.others_reserve-others.ensures.0 c.own_reserve-own.ensures.0 _ c.if-licence-others.false c.if-house-gt7.false refl
