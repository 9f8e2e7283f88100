use Rattle.std.proofs.Common.{rules}
use Rattle.valve.specs.FromC.{number_in_c}
use Rattle.valve.proofs.InCLaws.{answered_in_C}
use mathlib.Core.Path.{refl}
use Rattle.valve.proofs.lent.arrive_lent.Goals as goal

-- 0, and the head after it
pub returns-in-Ok : goal.returns-in-Ok
unfolding number_in_c
returns-in-Ok c = answered_in_C _ _ _ _ c.in-Ok.ensures refl

-- the refusal made negative, and the head as it was
pub returns-in-Err : goal.returns-in-Err
returns-in-Err c = answered_in_C _ _ _ _ c.in-Err.ensures (search rules)
