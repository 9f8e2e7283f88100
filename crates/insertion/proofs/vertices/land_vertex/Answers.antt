use native.Mathlib.Omega.{arith}
use Rattle.insertion.proofs.Answers.{vertex_full, vertex_more}
use Rattle.insertion.proofs.vertices.land_vertex.Goals as goal

pub returns-then-counts-ge-COUNT : goal.returns-then-counts-ge-COUNT
returns-then-counts-ge-COUNT c = vertex_full _ _ c.if-counts-ge-COUNT.true

pub returns : goal.returns
returns c = vertex_more _ _ _ (omega (arith, c.if-counts-ge-COUNT.false)) c.one_more16.ensures
