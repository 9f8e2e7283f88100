use Rattle.valve.specs.FromC.{number_in_c}
use native.Mathlib.Omega.{arith}
use mir.Syntax.{w32}
use mir.Facts.{to_z_pos}
use Rattle.valve.proofs.lent.found_number.Goals as goal

pub returns-in-Ok-Some : goal.returns-in-Ok-Some
unfolding number_in_c
returns-in-Ok-Some c = let h = rw c.in-Ok-Some.is at c.in-Ok-Some.field-0-is in rw (c.in-Ok-Some.is, h) (to_z_pos w32 {n = c.in-Ok-Some.recipe.0} (omega arith))

pub returns-in-Ok-None : goal.returns-in-Ok-None
unfolding number_in_c
returns-in-Ok-None c = let h = rw c.in-Ok-None.is at c.in-Ok-None.field-0-is in rw (c.in-Ok-None.is, h)
