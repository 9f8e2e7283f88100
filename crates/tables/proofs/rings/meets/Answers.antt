use Rattle.tables.proofs.rings.meets.Goals as goal

pub returns : goal.returns
returns c = rw c.if-met.false
