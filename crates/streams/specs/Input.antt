-- What a read answers, and what reading a list gives: how many bytes were read, or the error of a read that failed.
use Rattle.std.specs.Prelude.{ℕ, zero, suc, ◌<◌, List, length, take, Option, Some, None, Result, Ok, Err}
use Rattle.std.specs.Io.KnownBytes.{Consumes, IsAtEnd}
use Rattle.io.specs.Counts.{IsPrefixLen}

-- a read's answer: an error is a failure, and never the end; 0 is the end; any other number counts bytes
abbrev pub step_after : {E : Type 0} → Result ℕ E → Result (Option ℕ) E
step_after (Err e) = Err e
step_after (Ok zero) = Ok None
step_after (Ok (suc k)) = Ok (Some (suc k))

-- no more bytes are counted than the slice has; which they are, no contract of the library says of the system's files
abbrev pub Held : {E : Type 0} → Result ℕ E → List ℕ → Type 0
Held (Ok n) xs = IsPrefixLen n xs
Held (Err e) xs = Unit {0}

-- of a source that says which bytes it has left, those are counted with which it began, and all of them if the slice is not full
abbrev pub Took : {E : Type 0} → Option (List ℕ) → Option (List ℕ) → Result ℕ E → List ℕ → Type 0
Took old new (Ok n) xs = Consumes old new (take n xs) × (n < length xs → IsAtEnd new)
Took old new (Err e) xs = Unit {0}
