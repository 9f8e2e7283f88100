-- What an edge makes of the sides, the labels and the counts.
use Rattle.std.specs.Prelude.{ℕ, Bool, List}

-- what becomes of the chains, and whether a ring is closed
pub record Changed : Type 0 where
  pub sides : List ℕ
  pub labels : List ℕ
  pub blocks : ℕ
  pub relabellings : ℕ
  pub ring : Bool

abbrev pub changed : List ℕ → List ℕ → ℕ → ℕ → Bool → Changed
changed sides labels blocks relabellings ring =
    record { sides = sides; labels = labels; blocks = blocks; relabellings = relabellings; ring = ring }
