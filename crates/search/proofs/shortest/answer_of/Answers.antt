use mathlib.Core.Path.{refl}
use native.Mathlib.Omega.{arith}
use Rattle.search.proofs.shortest.answer_of.Goals as goal

pub returns-then-distance-lt-UNREACHED : goal.returns-then-distance-lt-UNREACHED
returns-then-distance-lt-UNREACHED c = (λ _. refl, λ l. absurd (omega arith))

pub returns-else-distance-lt-UNREACHED : goal.returns-else-distance-lt-UNREACHED
returns-else-distance-lt-UNREACHED c = (λ l. absurd (omega arith), λ _. refl)
