use mathlib.Core.Path.{ap, sym, ◌∙◌}
use mathlib.Core.List.{List}
use Prim.Native.Nat.{ℕ}
use native.Mathlib.Omega.{arith}
use Rattle.model.specs.Printing.{row_lines}
use Rattle.text.specs.Pages.{page, write}
use Rattle.chains.specs.Chains.{rows_in}
use Rattle.chains.proofs.NameLaws.{sweep_end, sweep_on, sweep_past}
use Rattle.chains.proofs.SheetLaws.{put_start, put_on, put_end}
use Rattle.listing.proofs.Lines.{row_lines_lem}
use Rattle.listing.proofs.listing.put_sheet_lines.Goals as goal

pub loop-edge-init : goal.loop-edge-init
loop-edge-init c = (omega arith, put_start _ _ _ _ _ _ _ _ row_lines_lem _ _)

pub loop-edge-preserved-then-of-ne0 : goal.loop-edge-preserved-then-of-ne0
loop-edge-preserved-then-of-ne0 c =
    let a = c.args in
    let l = c.loop-edge in
    let past = sweep_past a.degrees.now a.sides.now a.ends.now a.edges l.edge l.marks c.loop-edge-test.true (λ e. c.if-of-ne0.true (c.of.ensures ∙ e)) in (
      omega (arith, l.invariant.0),
      ap (λ (xs : List ℕ). write (row_lines (rows_in a.degrees.now a.sides.now a.ends.now a.lengths.now a.volumes.now a.edges xs)) (page l.out l.next)) past ∙ l.invariant.1,
    )

pub loop-edge-preserved : goal.loop-edge-preserved
loop-edge-preserved c =
    let one = sweep_on _ _ _ _ _ _ _ c.loop-edge-test.true (sym c.of.ensures ∙ c.if-of-ne0.false) c.take_row-row.ensures.1 in (
      omega (arith, c.loop-edge.invariant.0, c.put_chain_line-next.ensures.1),
      put_on _ _ _ _ _ _ _ _ row_lines_lem _ _ _ _ _ _ one c.take_row-row.ensures.0 c.put_chain_line-next.ensures.0 ∙ c.loop-edge.invariant.1,
    )

pub returns : goal.returns
returns c =
    let none = sweep_end _ _ _ _ _ _ c.loop-edge-test.false in (
      put_end _ _ _ _ _ _ _ _ row_lines_lem _ _ none ∙ c.loop-edge.invariant.1,
      omega (arith, c.loop-edge.invariant.0, c.loop-edge-test.false),
    )
