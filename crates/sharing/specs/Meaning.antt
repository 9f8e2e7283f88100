-- What the answer to setting the shares stands for, and the last step of the call.
use Rattle.counters.specs.declared.refusals.Refusal.{Refusal}
use Rattle.std.specs.Prelude.{ℕ, ◌||◌, List, map, ltb, if◌then◌else◌, ⊤, Result, Ok, Err}
use Rattle.model.specs.Basics.{sum}
use Rattle.model.specs.Queries.{Reply, allotted, refuses}
use Rattle.model.specs.Tables.{Counts}
use Rattle.counters.specs.Refusals.{number_of}
use Rattle.nursery.specs.Licence.{licence}
use Rattle.nursery.specs.Calls.{any_some}
use Rattle.heads.specs.declared.heads.Heads.{Heads}
use Rattle.heads.specs.Meaning.{as_heads}

abbrev pub shares_reply : Result ⊤ Refusal → Reply
shares_reply (Ok _) = allotted
shares_reply (Err x) = refuses (number_of x)

-- the vertices of each house
unfoldable pub vertices_of : Heads → List ℕ
vertices_of heads = map (λ (c : Counts). c.vertices) (as_heads heads)

-- shares and an answer
pub record Answered : Type 0 where
  pub shares : List ℕ
  pub reply : Reply

abbrev pub answered : List ℕ → Reply → Answered
answered shares a = record { shares = shares; reply = a }

-- 37, or the shares that are asked for
unfoldable pub allot_in : List ℕ → List ℕ → List ℕ → Answered
allot_in asked vertices shares =
    if ltb licence (sum asked) || any_some vertices then answered shares (refuses 37) else answered asked allotted
