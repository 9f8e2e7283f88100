use Rattle.looking.proofs.LookingLaws.{told_end, told_nothing, told_ring}
use Rattle.looking.proofs.through.told.Goals as goal

pub returns-then-known-eq0 : goal.returns-then-known-eq0
returns-then-known-eq0 c = told_nothing _ _ _ _ _ _ _ _ _ c.if-known-eq0.true

pub returns-then-degree_of-eq2 : goal.returns-then-degree_of-eq2
returns-then-degree_of-eq2 c =
    told_ring _ _ _ _ _ _ _ _ _ c.if-known-eq0.false _ c.degree_of.ensures _ c.if-degree_of-eq2.true c.add_lengths.ensures

pub returns-then-up : goal.returns-then-up
returns-then-up c =
    rw c.if-up.true (told_end _ _ _ _ _ _ _ _ _ c.if-known-eq0.false _ c.degree_of.ensures c.if-degree_of-eq2.false _ _ c.length_of.ensures c.add_lengths-near.ensures)

pub returns : goal.returns
returns c =
    rw c.if-up.false (told_end _ _ _ _ _ _ _ _ _ c.if-known-eq0.false _ c.degree_of.ensures c.if-degree_of-eq2.false _ _ c.length_of.ensures c.add_lengths-near.ensures)
