-- The right text of a list, and the verdict for which an answer stands.
use Rattle.std.specs.Prelude.{ℕ, List, take, Option, Result, Ok, Err}
use Rattle.model.specs.Format.{Read, whole, stopped}
use Rattle.model.specs.Printing.{listing}
use Rattle.model.specs.Judging as J
use Rattle.comparing.specs.Beginnings.{as_comparison}
use Rattle.counters.specs.Refusals.{number_of}
use Rattle.counters.specs.declared.refusals.Refusal.{Refusal}

-- the listing of a list that is read whole; of one that stops, where
pub data RightText : Type 0 where
  listed : List ℕ → RightText
  stops : ℕ → ℕ → RightText

unfoldable pub right_of : Read → RightText
right_of d = elim d.stop [ whole ↦ listed (listing d) | stopped k x ↦ stops k x ]

-- so many bytes at the front of the slice
abbrev pub size_of : Result ℕ (ℕ × Refusal) → ℕ
size_of (Ok n) = n
size_of (Err stop) = 0

abbrev pub as_right : Result ℕ (ℕ × Refusal) → List ℕ → RightText
as_right (Ok n) xs = listed (take n xs)
as_right (Err stop) xs = stops stop.0 (number_of stop.1)

abbrev pub as_verdict : Result (Option ℕ) (ℕ × Refusal) → J.Verdict
as_verdict (Ok comparison) = as_comparison comparison
as_verdict (Err stop) = J.not_judged stop.0 (number_of stop.1)
