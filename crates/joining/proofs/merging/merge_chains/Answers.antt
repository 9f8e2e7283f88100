use Rattle.joining.proofs.Merges.{by_closing, by_joining}
use mathlib.Core.Path.{◌∙◌}
use Rattle.joining.proofs.merging.merge_chains.Goals as goal

pub returns-then-merger : goal.returns-then-merger
returns-then-merger c =
    c.close_ring.ensures ∙ by_closing _ _ _ _ _ _ _ _ _ _ _ _ _ _ c.leave_leaf-first.ensures c.leave_leaf-second.ensures c.if-merger.true

pub returns : goal.returns
returns c =
    c.join_kept.ensures ∙ by_joining _ _ _ _ _ _ _ _ _ _ _ _ _ _ c.leave_leaf-first.ensures c.leave_leaf-second.ensures c.if-merger.false
