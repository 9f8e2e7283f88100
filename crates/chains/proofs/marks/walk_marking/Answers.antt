use Rattle.std.proofs.Common.{rules, ◌≡◌, min}
use mathlib.Core.Path.{refl, sym, ◌∙◌}
use native.Mathlib.Nat.{sub-zero}
use native.Mathlib.Omega.{arith}
use Rattle.chains.proofs.NameLaws.{mark_none, mark_stop, mark_step}
use Rattle.chains.proofs.VolumeLaws.{volume_none, volume_stop, volume_step}
use Rattle.chains.proofs.WalkLaws.{sum32_most, walk_whole, walk_none, walk_stop, walk_step}
use Rattle.chains.proofs.marks.walk_marking.Goals as goal

pub loop-init : goal.loop-init
loop-init c = (omega arith, omega arith, omega arith, rw sub-zero (walk_whole _ _ _ _ _ _ _ _), rw sub-zero refl, rw sub-zero refl)

pub overflow_add-inner : goal.overflow_add-inner
overflow_add-inner c = omega (arith, c.loop.invariant.0, c.loop-test.true, c.ranges.fuel.fits)

pub loop-preserved : goal.loop-preserved
loop-preserved c =
    let inv = c.loop.invariant in
    let h = c.loop-test.true in
    let goes = sym c.goes_on.ensures ∙ c.if-not-goes_on.false in
    let low : c.min-lowest.result.0 ≡ min c.loop.w.at.0 c.loop.lowest.0 = search rules in
    let over = c.step_over-w.ensures in (
      omega (arith, inv.0),
      rw c.add_lengths-length.ensures (sum32_most _ _),
      omega (arith, low, inv.2),
      sym (walk_step _ _ _ _ _ _ _ _ _ _ _ _ _ _ _ _ _ h goes low over.0 over.1 c.length_of.ensures c.add_lengths-length.ensures) ∙ inv.3,
      sym (volume_step _ _ _ _ _ _ _ _ _ _ _ _ _ h goes over.0 over.1 c.volume_onto-volume.ensures) ∙ inv.4,
      sym (mark_step _ _ _ _ _ _ _ _ _ _ _ _ h goes over.0 over.1 c.put_mark.ensures) ∙ inv.5,
    )

pub returns-after-loop : goal.returns-after-loop
returns-after-loop c =
    let inv = c.loop.invariant in (
      walk_none _ _ _ _ _ _ _ _ inv.1 inv.2 _ _ _ (omega (arith, c.loop-test.false)) ∙ inv.3,
      volume_none _ _ _ _ _ _ _ _ _ (omega (arith, c.loop-test.false)) ∙ inv.4,
      mark_none _ _ _ _ _ _ _ _ (omega (arith, c.loop-test.false)) ∙ inv.5,
    )

pub returns-then-not-goes_on : goal.returns-then-not-goes_on
returns-then-not-goes_on c =
    let inv = c.loop.invariant in
    let stops = sym c.goes_on.ensures ∙ c.if-not-goes_on.true in (
      walk_stop _ _ _ _ _ _ _ _ inv.1 inv.2 _ _ _ stops ∙ inv.3,
      volume_stop _ _ _ _ _ _ _ _ _ stops ∙ inv.4,
      mark_stop _ _ _ _ _ _ _ _ stops ∙ inv.5,
    )
