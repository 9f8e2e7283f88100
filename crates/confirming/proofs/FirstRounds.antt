-- The round that was run, by the distance that bounds it.
use mathlib.Core.Path.{◌≡◌}
use Prim.Native.Nat.{ℕ}
use mathlib.Core.List.{List}
use lib.ListN.{get_or}
use Rattle.relaxing.specs.Distances.{Grounded, Round}
use Rattle.relaxing.proofs.Relaxing.{keeps_same}
use Rattle.relaxing.proofs.Rounds.{round_settled}
use Rattle.confirming.specs.Rounds.{FirstRound}

-- the round over what was searched is the first one
pub first_round : (ends lengths : List ℕ) (m goal from : ℕ) (searched distances : List ℕ) (best changes : ℕ) → Grounded ends lengths m goal searched
    → best ≡ get_or searched from 0 → Round ends lengths m searched distances best changes → FirstRound ends lengths m goal from distances changes
first_round ends lengths m goal from searched distances best changes g e r = record {
  searched = searched;
  grounded = g;
  round = rw e at r;
  settled = λ z. round_settled ends lengths m from searched searched distances best changes (keeps_same g.bounded) e z r;
}
