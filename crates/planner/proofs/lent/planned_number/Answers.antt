use Rattle.planner.specs.FromC.{number_in_c}
use native.Mathlib.Omega.{arith}
use mir.Syntax.{w32}
use mir.Facts.{to_z_pos}
use Rattle.planner.proofs.lent.planned_number.Goals as goal

pub returns-in-Ok-At : goal.returns-in-Ok-At
unfolding number_in_c
returns-in-Ok-At c =
    let h = rw c.in-Ok-At.is at c.in-Ok-At.field-0-is in rw (c.in-Ok-At.is, h) (to_z_pos w32 {n = c.in-Ok-At.beginning.0} (omega arith))

pub returns-in-Ok-Never : goal.returns-in-Ok-Never
unfolding number_in_c
returns-in-Ok-Never c = let h = rw c.in-Ok-Never.is at c.in-Ok-Never.field-0-is in rw (c.in-Ok-Never.is, h)

pub returns-in-Ok-Unknown : goal.returns-in-Ok-Unknown
unfolding number_in_c
returns-in-Ok-Unknown c = let h = rw c.in-Ok-Unknown.is at c.in-Ok-Unknown.field-0-is in rw (c.in-Ok-Unknown.is, h)
