use Rattle.relaxing.proofs.Relaxing.{still_long, still_of, lowered}
use Rattle.model.specs.Distance.{forth, back}
use Rattle.model.specs.Tables.{stored_edge}
use Rattle.relaxing.specs.Distances.{rests}
use native.Mathlib.Omega.{arith}
use mathlib.Core.Path.{refl}
use Rattle.relaxing.proofs.relax.relax.Goals as goal

pub returns-then-best-len : goal.returns-then-best-len
returns-then-best-len c = rests refl refl (still_long _ _ _ _ _ _ refl c.if-best-len.true)

pub overflow_add-sum : goal.overflow_add-sum
overflow_add-sum c = omega (arith, c.requires.first_distance)

pub returns-then-min-sum : goal.returns-then-min-sum
returns-then-min-sum c = rests refl refl (still_of _ _ _ _ _ _ _ _ _ _ _ refl refl refl refl refl refl (omega arith))

pub returns-then-da-db : goal.returns-then-da-db
unfolding stored_edge
returns-then-da-db c =
    lowered _ _ _ _ _ _ _ _ _ _ _ _ (back refl refl) refl refl refl
    (omega (arith, c.min.ensures, c.if-da-db.true)) (omega (arith, c.if-da-db.true, c.max.ensures, c.min-2.ensures, c.if-min-sum.false)) refl

pub returns : goal.returns
unfolding stored_edge
returns c =
    lowered _ _ _ _ _ _ _ _ _ _ _ _ (forth refl refl) refl refl refl
    (omega (arith, c.min.ensures, c.if-da-db.false)) (omega (arith, c.if-da-db.false, c.max.ensures, c.min-2.ensures, c.if-min-sum.false)) refl
