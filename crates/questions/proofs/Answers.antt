-- What it is for a question to be answered right.
use mathlib.Core.Path.{◌≡◌}
use Prim.Native.Nat.{ℕ}
use mathlib.Core.List.{List}
use Rattle.model.specs.Queries.{Reply}
use Rattle.model.specs.Tables.{Tables, Counts}
use Rattle.model.specs.Calls.{Ask, House, answer}
use Rattle.model.specs.Notions.{HeldOf}
use Rattle.tables.specs.Meaning.{stored}

-- what a question about a house with the register that tables and counts hold leaves in its slice and answers
abbrev pub Answers : Ask → Tables → Counts → List ℕ → Reply → Type 0
Answers q t k xs a = (s : House) → HeldOf (stored t k) s.register → answer q s ≡ record { slice = xs; reply = a }
