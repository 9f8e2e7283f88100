use mathlib.Core.Path.{ap}
use Rattle.insertion.specs.Meaning.{as_answer}
use Rattle.fetching.proofs.LineLaws.{edge_beyond, line_landed, more_edges, more_vertices}
use Rattle.fetching.proofs.named.line_named.Goals as goal

pub returns-then-counts-vertices-clause-fetches : goal.returns-then-counts-vertices-clause-fetches
returns-then-counts-vertices-clause-fetches c = λ removals. more_vertices _ _ _ _ _ _ c.if-counts-vertices.true

pub returns-then-counts-edges-clause-fetches : goal.returns-then-counts-edges-clause-fetches
returns-then-counts-edges-clause-fetches c = λ removals. more_edges _ _ _ _ _ _ c.if-counts-vertices.false c.if-counts-edges.true

pub returns-in-Ok-clause-fetches : goal.returns-in-Ok-clause-fetches
returns-in-Ok-clause-fetches c =
    λ removals. line_landed _ _ _ _ _ _ c.if-counts-vertices.false c.if-counts-edges.false _ _ c.regrow.ensures.lands _ _ _ _ (ap as_answer c.in-Ok.is) c.view.ensures (c.line_at.ensures _ removals)

pub returns-in-Err-clause-fetches : goal.returns-in-Err-clause-fetches
returns-in-Err-clause-fetches c =
    λ removals. edge_beyond _ _ _ _ _ _ c.if-counts-vertices.false c.if-counts-edges.false _ _ c.regrow.ensures.lands _ (ap as_answer c.in-Err.is)
