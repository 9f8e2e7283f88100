-- A slice of numbers, bytes or wider ones, that is written from a position on.
use Rattle.std.specs.Prelude.{ℕ, ◌+◌, List, [], ◌∷◌, length, set, ltb, if◌then◌else◌}

pub record Page : Type 0 where
  pub slice : List ℕ
  pub at : ℕ

abbrev pub page : List ℕ → ℕ → Page
page xs at = record { slice = xs; at = at }

-- one number; past the end nothing is written
unfoldable pub put : ℕ → Page → Page
put x p = if ltb p.at (length p.slice) then page (set p.slice p.at x) (p.at + 1) else p

unfoldable pub write : List ℕ → Page → Page
write [] p = p
write (x ∷ xs) p = write xs (put x p)
