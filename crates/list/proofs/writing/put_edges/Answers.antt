use mathlib.Core.Path.{◌∙◌}
use Rattle.text.proofs.Pieces.{numbers_start, numbers_on, numbers_end}
use Rattle.list.proofs.WritingLaws.{edge_pieces}
use Rattle.list.proofs.writing.put_edges.Goals as goal

pub loop-edge-init : goal.loop-edge-init
loop-edge-init c = numbers_start _ (edge_pieces _ _ _) _ _

pub loop-edge-preserved : goal.loop-edge-preserved
loop-edge-preserved c =
    numbers_on _ (edge_pieces _ _ _) _ _ _ _ c.loop-edge-test.true c.put_edge_of-next.ensures ∙ c.loop-edge.invariant

pub returns : goal.returns
returns c = numbers_end _ (edge_pieces _ _ _) _ _ _ c.loop-edge-test.false ∙ c.loop-edge.invariant
