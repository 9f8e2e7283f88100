-- What the contracts of the search say, beyond those of single steps (relaxing/specs/Distances).
use Rattle.std.specs.Prelude.{◌≡◌, ◌≢◌, ℕ, ◌+◌, ◌*◌, ◌<◌, List, length, get_or}
use Rattle.model.specs.Basics.{max_edges}
use Rattle.relaxing.specs.Distances.{unreached}

-- the distances that the search begins with
pub record Started (distances : List ℕ) (goal : ℕ) : Type 0 where
  pub others : (v : ℕ) → v < length distances → v ≢ goal → get_or distances v 0 ≡ unreached
  pub at_goal : get_or distances goal 0 ≡ 0

-- edge e can be put into the incidence lists: its ends stand within the tables, and have a list each, of so many
pub record Linkable (ends : List ℕ) (heads next e : ℕ) : Type 0 where
  pub few : e < max_edges
  pub ends_room : 2 * e + 1 < length ends
  pub next_room : 2 * e + 3 < next
  pub first_room : get_or ends (2 * e) 0 < heads
  pub second_room : get_or ends (2 * e + 1) 0 < heads
