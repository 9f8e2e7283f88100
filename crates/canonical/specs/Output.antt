-- What the program writes for the bytes that it read.
use Rattle.std.specs.Prelude.{ℕ, List, [], length, take, ltb, if◌then◌else◌, Result, Ok, Err}
use Rattle.model.specs.Format.{Read, whole, stopped, grow_list, written}
use Rattle.model.specs.Printing.{ascii, stop_line}

-- the bytes on standard output, and those on standard error
pub record Streams : Type 0 where
  pub out : List ℕ
  pub err : List ℕ

abbrev pub gives : List ℕ → Streams
gives bs = record { out = bs; err = [] }

abbrev pub tells : List ℕ → Streams
tells bs = record { out = []; err = bs }

-- of a list that is read whole, the list of its register; of one that stops, not a byte, and the stop is told
unfoldable pub canonical_of : Read → Streams
canonical_of d = elim d.stop [ whole ↦ gives (written d.register) | stopped k x ↦ tells (stop_line (stopped k x)) ]

unfoldable pub canonical : List ℕ → Streams
canonical bs = if ltb 65536 (length bs) then tells (ascii "too long\n") else canonical_of (grow_list bs)

-- ---- the program's answer: so many bytes at the front of its slice

abbrev pub size_of : Result ℕ ℕ → ℕ
size_of (Ok n) = n
size_of (Err n) = n

abbrev pub as_output : Result ℕ ℕ → List ℕ → Streams
as_output (Ok n) xs = gives (take n xs)
as_output (Err n) xs = tells (take n xs)

-- the program's slice: 4,096 vertices and edges need 57,349 bytes, a complaint fewer
abbrev pub room_bytes : ℕ
room_bytes = 65536
