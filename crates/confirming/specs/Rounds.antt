-- What the first round over all edges does, behind the search.
use Rattle.std.specs.Prelude.{◌≡◌, ℕ, List, get_or}
use Rattle.relaxing.specs.Distances.{Grounded, Round, Settled}

-- distances that were grounded before the round over all edges, and what the round made of them with so many changes; which grounded
-- distances the search leaves is not settled, since it is a hint
pub record FirstRound (ends lengths : List ℕ) (m goal from : ℕ) (distances : List ℕ) (changes : ℕ) : Type 0 where
  pub searched : List ℕ
  pub grounded : Grounded ends lengths m goal searched
  pub round : Round ends lengths m searched distances (get_or searched from 0) changes
  pub settled : changes ≡ 0 → Settled ends lengths m from searched distances
