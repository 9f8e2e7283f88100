-- The other edges landed anew, as a function that mirrors the code.
use Rattle.std.specs.Prelude.{ℕ, ◌+◌, ◌-◌, false, List}
use Rattle.model.specs.Tables.{Tables, Counts}
use Rattle.counters.specs.Answers.{counts}
use Rattle.insertion.specs.Insertion.{LandingIn, done, refused_in}
use Rattle.holding.specs.Replay.{replay_in}

-- the edges before d and those behind it, landed on t, on which no ring stands, after as many vertices as the counts say
unfoldable pub rest_in : List ℕ → List ℕ → List ℕ → Counts → ℕ → Tables → LandingIn
rest_in ends lengths volumes c d t =
    let l = replay_in ends lengths volumes d 0 t (counts c.vertices 0 0 0) false in
    elim l.answer [
      | done c' rings ↦ replay_in ends lengths volumes (c.edges - (d + 1)) (d + 1) l.tables c' rings
      | refused_in x ↦ l
    ]
