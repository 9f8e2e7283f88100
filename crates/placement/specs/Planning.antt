-- What is planned for an edge by reading the tables, and what a plan does, as functions of lists that mirror the code. By `planned_is` in
-- Plans a plan that was made of the tables does what Placing says at once.
use Rattle.counters.specs.declared.numbers.Vertex.{Vertex}
use Rattle.std.specs.Prelude.{ℕ, Bool, false, List, Some, None, Option}
use Rattle.tables.specs.Steps.{raise_both_in}
use Rattle.joining.specs.Merging.{merger, merger_for, merge_by}
use Rattle.parting.specs.Splitting.{no_rounds, rounds_for, ends_by}
use Rattle.joining.specs.declared.merging.Merger.{Merger}
use Rattle.parting.specs.declared.splitting.Splits.{Splits}
use Rattle.parting.specs.declared.splitting.Rounds.{Rounds}
use Rattle.placement.specs.Placing.{meet_in, Placed, placed, goes_on_in}
use Rattle.placement.specs.declared.placing.Work.{Work}
use Rattle.placement.specs.declared.placing.Work.TheVariants.{Merge, Open}
use Rattle.placement.specs.declared.planning.Plan.{Plan}

abbrev pub plan : Work → Merger → Rounds → Plan
plan work merger rounds = record { work = work; merger = merger; rounds = rounds }

-- the plan for an edge between a and b, by what is done in its case; n edges are there
abbrev pub plan_for : Work → List ℕ → List ℕ → List ℕ → ℕ → ℕ → ℕ → Bool → Plan
plan_for Merge degrees sides ends a b n rings = plan Merge (merger_for degrees sides ends a b n) no_rounds
plan_for (Open splits extension) degrees sides ends a b n rings =
    plan (Open splits extension) (merger false None) (rounds_for splits degrees sides ends a b n rings)

-- ---- what it does

-- both ends opened: those that are split, and then the edge comes to each
unfoldable pub opened_by : Splits → Rounds → List ℕ → List ℕ → List ℕ → List ℕ → ℕ → ℕ → ℕ → ℕ → Placed
opened_by splits rounds degrees sides ends labels blocks a b e =
    let c = ends_by splits rounds degrees sides ends labels blocks a b in
    placed (raise_both_in degrees a b) (meet_in degrees (meet_in degrees c.sides a e) b e) c.labels c.blocks c.relabellings
    c.ring

-- .. and then the chain of a leaf goes on
abbrev pub open_by : Splits → Rounds → Option Vertex → List ℕ → List ℕ → List ℕ → List ℕ → ℕ → ℕ → ℕ → ℕ → Placed
open_by splits rounds None degrees sides ends labels blocks a b e = opened_by splits rounds degrees sides ends labels blocks a b e
open_by splits rounds (Some x) degrees sides ends labels blocks a b e =
    goes_on_in (opened_by splits rounds degrees sides ends labels blocks a b e) ends x.0 e

-- both are leaves
unfoldable pub merged_by : Merger → List ℕ → List ℕ → List ℕ → List ℕ → ℕ → ℕ → ℕ → ℕ → Placed
merged_by by degrees sides ends labels blocks a b e =
    let c = merge_by by degrees sides ends labels blocks a b e e in
    placed (raise_both_in degrees a b) c.sides c.labels c.blocks c.relabellings c.ring

abbrev pub work_by : Work → Merger → Rounds → List ℕ → List ℕ → List ℕ → List ℕ → ℕ → ℕ → ℕ → ℕ → Placed
work_by Merge by rounds degrees sides ends labels blocks a b e = merged_by by degrees sides ends labels blocks a b e
work_by (Open splits extension) by rounds degrees sides ends labels blocks a b e =
    open_by splits rounds extension degrees sides ends labels blocks a b e

abbrev pub planned_in : Plan → List ℕ → List ℕ → List ℕ → List ℕ → ℕ → ℕ → ℕ → ℕ → Placed
planned_in p degrees sides ends labels blocks a b e =
    work_by p.work p.merger p.rounds degrees sides ends labels blocks a b e
