-- What the program writes for the list and the sheet that it read.
use Rattle.std.specs.Prelude.{ℕ, List, [], ◌∷◌, ◌++◌, length, take, ltb, if◌then◌else◌, Result, Ok, Err}
use Rattle.model.specs.Format.{Read, whole, stopped, grow_list}
use Rattle.model.specs.Printing.{ascii, line, stop_line, listing}
use Rattle.model.specs.Judging.{Verdict, agrees, wrong_line, not_judged, compare_texts}

-- what follows from the list alone: the text that its sheet has to be; or of a list that is refused or too long the line that says so, as the
-- printing program has it, whatever the sheet
pub data Awaited : Type 0 where
  sheet : List ℕ → Awaited
  nothing : List ℕ → Awaited

unfoldable pub awaited_of : Read → Awaited
awaited_of d = elim d.stop [ whole ↦ sheet (listing d) | stopped k x ↦ nothing (stop_line (stopped k x)) ]

unfoldable pub awaited : List ℕ → Awaited
awaited bs = if ltb 65536 (length bs) then nothing (ascii "too long\n") else awaited_of (grow_list bs)

-- a verdict as a line
unfoldable pub verdict_line : Verdict → List ℕ
verdict_line agrees = ascii "agrees\n"
verdict_line (wrong_line n) = ascii "line " ++ line (n ∷ [])
verdict_line (not_judged k x) = stop_line (stopped k x)

-- what the program writes in the end
unfoldable pub told : List ℕ → List ℕ → List ℕ
told bs text = elim (awaited bs) [ sheet right ↦ verdict_line (compare_texts right text) | nothing said ↦ said ]

-- ---- the program's answer on a list: so many bytes at the front of its slice

abbrev pub size_of : Result ℕ ℕ → ℕ
size_of (Ok n) = n
size_of (Err n) = n

abbrev pub as_awaited : Result ℕ ℕ → List ℕ → Awaited
as_awaited (Ok n) xs = sheet (take n xs)
as_awaited (Err n) xs = nothing (take n xs)

-- the program's slice for a verdict: no line is longer
abbrev pub line_bytes : ℕ
line_bytes = 40
