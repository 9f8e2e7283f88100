-- What the calls from C leave and return.
use mathlib.Core.Path.{◌≡◌, ap, ◌∙◌}
use lib.IntN.{ℤ}
use Rattle.valve.specs.Window.{Window}
use Rattle.valve.specs.Valve.{Reply}
use Rattle.valve.specs.Calls.{Outcome, outcome}
use Rattle.valve.specs.FromC.{number_in_c, in_c, outcome_in_c}

-- an answer as a number
pub answered_in_C : (w : Window) (a : Reply) (n : ℤ) (o : Outcome) → outcome w a ≡ o → n ≡ number_in_c a → in_c w n ≡ outcome_in_c o
unfolding outcome_in_c
answered_in_C w a n o e q = ap (λ (k : ℤ). in_c w k) q ∙ ap outcome_in_c e
