use mathlib.Core.Path.{ap, sym, ◌∙◌}
use mathlib.Core.List.{List}
use Prim.Native.Nat.{ℕ, ◌+◌}
use native.Mathlib.Omega.{arith}
use lib.ListN.{length}
use Rattle.chains.proofs.NameLaws.{names_few, sweep_end, sweep_on, sweep_past, sweep_start}
use Rattle.chains.proofs.names.count_chains.Goals as goal

pub loop-edge-init : goal.loop-edge-init
loop-edge-init c = omega (arith, ap (λ (xs : List ℕ). length xs) (sweep_start c.args.degrees.now c.args.sides.now c.args.ends.now c.args.edges c.args.marks.now))

pub loop-edge-preserved-then-of-ne0 : goal.loop-edge-preserved-then-of-ne0
loop-edge-preserved-then-of-ne0 c =
    ap (λ (xs : List ℕ). c.loop-edge.count + length xs) (sweep_past _ _ _ _ _ _ c.loop-edge-test.true (λ e. c.if-of-ne0.true (c.of.ensures ∙ e))) ∙ c.loop-edge.invariant

pub overflow_add-count : goal.overflow_add-count
overflow_add-count c =
    let one = ap (λ (xs : List ℕ). length xs) (sweep_on _ _ _ _ _ _ _ c.loop-edge-test.true (sym c.of.ensures ∙ c.if-of-ne0.false) c.mark_chain.ensures) in
    omega (arith, one, c.loop-edge.invariant, names_few c.args.degrees.now c.args.sides.now c.args.ends.now c.args.edges c.args.marks.now, c.ranges.edges.fits)

pub loop-edge-preserved : goal.loop-edge-preserved
loop-edge-preserved c =
    let one = ap (λ (xs : List ℕ). length xs) (sweep_on _ _ _ _ _ _ _ c.loop-edge-test.true (sym c.of.ensures ∙ c.if-of-ne0.false) c.mark_chain.ensures) in
    omega (arith, one, c.loop-edge.invariant)

pub returns : goal.returns
returns c =
    let none = ap (λ (xs : List ℕ). length xs) (sweep_end c.args.degrees.now c.args.sides.now c.args.ends.now c.args.edges c.loop-edge.edge c.loop-edge.marks c.loop-edge-test.false) in
    omega (arith, none, c.loop-edge.invariant)
