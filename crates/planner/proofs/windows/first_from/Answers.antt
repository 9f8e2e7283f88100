use Rattle.std.proofs.Common.{◌≡◌}
use Rattle.std.specs.Prelude.{None}
use Rattle.planner.proofs.PlanLaws.{from_at, from_nothing, from_fits}
use native.Mathlib.Omega.{arith}
use Rattle.planner.proofs.windows.first_from.Goals as goal

pub returns-in_err-minute : goal.returns-in_err-minute
returns-in_err-minute c = let gone : c.from_residual.result ≡ None = grind arith in rw gone (from_nothing _ _ _ _ c.in_err-minute.ensures)

-- the sum is at most 20,160
pub overflow_add-result : goal.overflow_add-result
overflow_add-result c = omega (arith, c.requires.1.0, from_fits _ _ _ _ c.requires.1.1 c.in_ok-minute.ensures)

pub returns : goal.returns
returns c = from_at _ _ _ _ _ c.in_ok-minute.ensures
