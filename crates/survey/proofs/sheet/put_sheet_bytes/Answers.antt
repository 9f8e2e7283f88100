use mathlib.Core.Path.{ap, sym, ◌∙◌}
use mathlib.Core.List.{List}
use Prim.Native.Nat.{ℕ, ◌+◌}
use native.Mathlib.Omega.{arith}
use lib.ListN.{length}
use Rattle.model.specs.FromC.{bytes_of}
use Rattle.model.specs.Queries.{concat}
use Rattle.text.specs.Pages.{Page, page, write}
use Rattle.chains.specs.Chains.{rows_in}
use Rattle.chains.proofs.NameLaws.{names_few, sweep_end, sweep_on, sweep_past, sweep_start}
use Rattle.chains.proofs.SheetLaws.{put_start, put_on, put_end}
use Rattle.survey.proofs.Rows.{row_bytes_lem}
use Rattle.survey.proofs.sheet.put_sheet_bytes.Goals as goal

pub loop-edge-init : goal.loop-edge-init
loop-edge-init c =
    let a = c.args in
    let start = sweep_start a.degrees.now a.sides.now a.ends.now a.edges a.marks.now in
    (omega (arith, ap (λ (xs : List ℕ). length xs) start), put_start _ _ _ _ _ _ _ _ row_bytes_lem _ _)

pub loop-edge-preserved-then-of-ne0 : goal.loop-edge-preserved-then-of-ne0
loop-edge-preserved-then-of-ne0 c =
    let a = c.args in
    let l = c.loop-edge in
    let past = sweep_past a.degrees.now a.sides.now a.ends.now a.edges l.edge l.marks c.loop-edge-test.true (λ e. c.if-of-ne0.true (c.of.ensures ∙ e)) in (
      ap (λ (xs : List ℕ). l.count + length xs) past ∙ l.invariant.0,
      ap (λ (xs : List ℕ). write (bytes_of (concat (rows_in a.degrees.now a.sides.now a.ends.now a.lengths.now a.volumes.now a.edges xs))) (page l.out l.next)) past ∙ l.invariant.1,
    )

pub overflow_add-count : goal.overflow_add-count
overflow_add-count c =
    let a = c.args in
    let one = sweep_on a.degrees.now a.sides.now a.ends.now a.edges _ _ _ c.loop-edge-test.true (sym c.of.ensures ∙ c.if-of-ne0.false) c.take_row-row.ensures.1 in
    omega (arith, ap (λ (xs : List ℕ). length xs) one, c.loop-edge.invariant.0, names_few a.degrees.now a.sides.now a.ends.now a.edges a.marks.now, c.ranges.edges.fits)

pub loop-edge-preserved : goal.loop-edge-preserved
loop-edge-preserved c =
    let a = c.args in
    let one = sweep_on a.degrees.now a.sides.now a.ends.now a.edges _ _ _ c.loop-edge-test.true (sym c.of.ensures ∙ c.if-of-ne0.false) c.take_row-row.ensures.1 in (
      omega (arith, ap (λ (xs : List ℕ). length xs) one, c.loop-edge.invariant.0),
      put_on _ _ _ _ _ _ _ _ row_bytes_lem _ _ _ _ _ _ one c.take_row-row.ensures.0 c.put_row_bytes-next.ensures ∙ c.loop-edge.invariant.1,
    )

pub returns : goal.returns
returns c =
    let a = c.args in
    let none = sweep_end a.degrees.now a.sides.now a.ends.now a.edges c.loop-edge.edge c.loop-edge.marks c.loop-edge-test.false in (
      omega (arith, ap (λ (xs : List ℕ). length xs) none, c.loop-edge.invariant.0),
      ap (λ (p : Page). p.slice) (put_end _ _ _ _ _ _ _ _ row_bytes_lem _ _ none ∙ c.loop-edge.invariant.1),
    )
