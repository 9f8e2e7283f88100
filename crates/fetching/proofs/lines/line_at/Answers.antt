use mathlib.Core.Path.{ap, sym, ◌∙◌}
use mathlib.Core.List.{List}
use Prim.Native.Nat.{ℕ}
use native.Mathlib.Omega.{arith}
use Rattle.model.specs.Opened.{line_at}
use Rattle.chains.specs.Chains.{rows_in}
use Rattle.chains.proofs.NameLaws.{sweep_end, sweep_on, sweep_past}
use Rattle.fetching.proofs.LineLaws.{left_here, left_past, line_next, line_start}
use Rattle.fetching.proofs.lines.line_at.Goals as goal

pub loop-edge-init : goal.loop-edge-init
loop-edge-init c = (omega arith, line_start _ _ _ _ _ _ _ _)

pub loop-edge-preserved-then-of-ne0 : goal.loop-edge-preserved-then-of-ne0
loop-edge-preserved-then-of-ne0 c =
    let a = c.args in
    let l = c.loop-edge in
    let past = sweep_past a.tables.now.degrees.now a.tables.now.sides.now a.tables.now.ends.now a.edges l.edge l.marks c.loop-edge-test.true (λ e. c.if-of-ne0.true (c.of.ensures ∙ e)) in (
      omega (arith, l.invariant.0),
      ap (λ (xs : List ℕ). line_at l.before (rows_in a.tables.now.degrees.now a.tables.now.sides.now a.tables.now.ends.now a.tables.now.lengths.now a.tables.now.volumes.now a.edges xs)) past ∙ l.invariant.1,
    )

pub overflow_add-result : goal.overflow_add-result
overflow_add-result c = omega (arith, c.loop-edge.invariant.0, c.loop-edge-test.true, c.if-before-eq0.true, c.ranges.edges.fits)

pub returns-then-before-eq0 : goal.returns-then-before-eq0
returns-then-before-eq0 c =
    let one = sweep_on _ _ _ _ _ _ _ c.loop-edge-test.true (sym c.of.ensures ∙ c.if-of-ne0.false) c.take_row-row.ensures.1 in
    λ vertices removals. left_here _ _ _ _ _ _ vertices removals _ _ _ _ c.loop-edge.invariant.1 _ _ _ one c.if-before-eq0.true c.take_row-row.ensures.0

pub overflow_sub-before : goal.overflow_sub-before
overflow_sub-before c = omega (arith, c.if-before-eq0.false)

pub loop-edge-preserved : goal.loop-edge-preserved
loop-edge-preserved c =
    let one = sweep_on _ _ _ _ _ _ _ c.loop-edge-test.true (sym c.of.ensures ∙ c.if-of-ne0.false) c.take_row-row.ensures.1 in (
      omega (arith, c.loop-edge.invariant.0, c.if-before-eq0.false),
      line_next _ _ _ _ _ _ _ _ _ _ one c.if-before-eq0.false ∙ c.loop-edge.invariant.1,
    )

pub returns : goal.returns
returns c =
    let none = sweep_end _ _ _ _ _ _ c.loop-edge-test.false in
    λ vertices removals. left_past _ _ _ _ _ _ vertices removals _ _ _ _ c.loop-edge.invariant.1 none
