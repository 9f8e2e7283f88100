use Rattle.chains.proofs.NameLaws.{names_fit}
use Rattle.chains.proofs.names.has_room.Goals as goal

pub returns-then-edges-rows : goal.returns-then-edges-rows
returns-then-edges-rows c = names_fit _ _ _ _ _ _ c.if-edges-rows.true

pub returns : goal.returns
returns c = rw (← c.count_chains-count.ensures)
