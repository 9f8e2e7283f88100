-- What the call from C returns.
use mathlib.Core.Path.{◌≡◌, ap, ◌∙◌}
use Prim.Native.Nat.{ℕ}
use mathlib.Core.List.{List}
use mathlib.Core.Option.{none, some}
use lib.IntN.{ℤ}
use Rattle.counters.specs.Numbers.{within}
use Rattle.counters.proofs.Within.{within_is, within_none}
use Rattle.planner.specs.Windows.{Window}
use Rattle.planner.specs.Planning.{Reply, refuses, plan}
use Rattle.planner.specs.FromC.{number_in_c}
use Rattle.planner.proofs.PlanLaws.{plan_34}
use Rattle.planner.proofs.BoundLaws.{minute_out}

module _ (volume flow minute : ℕ) (ws : List Window) where
  -- a minute of the week is handed on as it is
  pub given_in_C : (given : ℕ) (a : Reply) (n : ℤ) → some given ≡ within 0 10079 minute → a ≡ plan volume flow given ws → n ≡ number_in_c a
      → n ≡ number_in_c (plan volume flow minute ws)
  given_in_C given a n e q p = p ∙ ap number_in_c (q ∙ ap (λ (m : ℕ). plan volume flow m ws) (within_is 0 10079 minute given e))

  -- any other is refused with 34, whatever else is given
  pub out_in_C : (n : ℤ) → none ≡ within 0 10079 minute → n ≡ number_in_c (refuses 34) → n ≡ number_in_c (plan volume flow minute ws)
  out_in_C n e p = p ∙ ap number_in_c (plan_34 volume flow minute ws (minute_out flow minute ws (within_none 10079 minute e)))
