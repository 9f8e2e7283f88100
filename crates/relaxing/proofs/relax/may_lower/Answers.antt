use mathlib.Core.Bool.{true≢false}
use mathlib.Core.Path.{refl}
use native.Mathlib.Omega.{arith}
use Rattle.relaxing.proofs.Relaxing.{still_of}
use Rattle.relaxing.proofs.relax.may_lower.Goals as goal

pub overflow_add-sum : goal.overflow_add-sum
overflow_add-sum c = omega (arith, c.requires.first_distance)

pub returns-then-high-sum : goal.returns-then-high-sum
returns-then-high-sum c = λ _. still_of _ _ _ _ _ _ _ _ _ _ _ refl refl refl refl refl refl (omega arith)

pub returns : goal.returns
returns c = λ q. absurd (true≢false q)
