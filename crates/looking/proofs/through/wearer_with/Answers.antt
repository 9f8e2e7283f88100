use Rattle.looking.proofs.LookingLaws.{wearer_before, wearer_here, wearer_not}
use Rattle.looking.proofs.through.wearer_with.Goals as goal

pub returns-then-wearer-ne0 : goal.returns-then-wearer-ne0
returns-then-wearer-ne0 c = wearer_before _ _ _ _ c.if-wearer-ne0.true

pub returns-then-own-label : goal.returns-then-own-label
returns-then-own-label c =
    wearer_here _ _ _ _ _ c.if-wearer-ne0.false c.label_of-own.ensures _ c.if-own-label.true c.one_more16.ensures

pub returns-else-own-label : goal.returns-else-own-label
returns-else-own-label c =
    wearer_not _ _ _ _ _ c.if-wearer-ne0.false c.label_of-own.ensures c.if-own-label.false
