-- A plan made of the tables does what is said at once in Placing.
use Rattle.counters.specs.declared.numbers.Vertex.{Vertex}
use Rattle.std.specs.Prelude.{Some, None, Option}
use mathlib.Core.Path.{◌≡◌, ap}
use mathlib.Core.Bool.{Bool, false}
use mathlib.Core.List.{List}
use Prim.Native.Nat.{ℕ}
use Rattle.joining.proofs.Merges.{merge_decided}
use Rattle.parting.proofs.Splits.{ends_found}
use Rattle.joining.specs.Merging.{merger, merger_for}
use Rattle.parting.specs.Splitting.{no_rounds, rounds_for}
use Rattle.joining.specs.declared.merging.Merger.{Merger}
use Rattle.parting.specs.declared.splitting.Rounds.{Rounds}
use Rattle.parting.specs.declared.splitting.Splits.{Splits}
use Rattle.placement.specs.Placing.{Placed, goes_on_in, merged_in, opened_in, work_in}
use Rattle.placement.specs.Planning.{merged_by, opened_by, plan, plan_for, planned_in}
use Rattle.placement.specs.declared.placing.Work.{Work}
use Rattle.placement.specs.declared.placing.Work.TheVariants.{Merge, Open}

-- what is read for the work
module _ (work : Work) (degrees s ends : List ℕ) (a b n : ℕ) (rings : Bool) where
  -- the plan of a merge has whether a ring is closed, and which chain keeps its labels
  pub plan_merge : (m : Merger) (r : Rounds) → work ≡ Merge → m ≡ merger_for degrees s ends a b n → r ≡ no_rounds
      → plan work m r ≡ plan_for work degrees s ends a b n rings
  plan_merge m r o h g = rw (o, h, g)

  -- any other plan has what lies round about the ends that are split
  pub plan_open : (splits : Splits) (x : Option Vertex) (r : Rounds) → work ≡ Open splits x → r ≡ rounds_for splits degrees s ends a b n rings
      → plan (Open splits x) (merger false None) r ≡ plan_for work degrees s ends a b n rings
  plan_open splits x r o h = rw (o, h)

module _ (degrees s ends l : List ℕ) (blocks a b e : ℕ) (rings : Bool) where
  opened_is : (splits : Splits)
      → opened_by splits (plan_for (Open splits None) degrees s ends a b e rings).rounds degrees s ends l blocks a b e
      ≡ opened_in splits degrees s ends l blocks a b e rings
  unfolding opened_by opened_in
  opened_is splits = rw (ends_found splits degrees s ends l blocks a b e rings)

  -- what is done for an edge, planned first
  pub planned_is : (work : Work)
      → planned_in (plan_for work degrees s ends a b e rings) degrees s ends l blocks a b e ≡ work_in work degrees s ends l blocks a b e rings
  unfolding merged_by merged_in
  planned_is Merge = rw (merge_decided degrees s ends l blocks a b e e)
  planned_is (Open splits None) = opened_is splits
  planned_is (Open splits (Some x)) = ap (λ (p : Placed). goes_on_in p ends x.0 e) (opened_is splits)
