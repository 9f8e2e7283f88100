use Rattle.joining.proofs.Merges.{merger_closes, merger_joins}
use Rattle.joining.proofs.merging.merger_of.Goals as goal

pub returns-then-met-b : goal.returns-then-met-b
returns-then-met-b c =
    merger_closes _ _ _ _ _ _ _ _ _ _ _ c.leave_leaf-first.ensures c.leave_leaf-second.ensures c.walk_lockstep-met.ensures c.if-met-b.true

pub returns : goal.returns
returns c =
    merger_joins _ _ _ _ _ _ _ _ _ _ _ c.leave_leaf-first.ensures c.leave_leaf-second.ensures c.walk_lockstep-met.ensures _ c.if-met-b.false c.keeper_of-keeper.ensures
