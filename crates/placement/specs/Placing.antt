-- What an edge does to the degrees, the sides and the labels, as functions of lists that mirror the code.
use Rattle.counters.specs.declared.numbers.Vertex.{Vertex}
use Rattle.std.specs.Prelude.{ℕ, Bool, false, List, get_or, eqb, if◌then◌else◌, Some, None, Option}
use Rattle.model.specs.Graph.{Edge}
use Rattle.model.specs.Cases.{Case, new_chain, extends, merges, closes, split_extends, split_new, split_both, first_named, second_named, class_of, case_of}
use Rattle.model.specs.Tables.{Tables, Counts}
use Rattle.counters.specs.Numbers.{vertex_of}
use Rattle.tables.specs.Steps.{set_pair, raise_both_in}
use Rattle.labels.specs.Labelling.{extend_in}
use Rattle.joining.specs.Merging.{merge_in}
use Rattle.parting.specs.Splitting.{split_ends_in}
use Rattle.parting.specs.declared.splitting.Splits.{Splits}
use Rattle.parting.specs.declared.splitting.Splits.TheVariants.{Neither, One, Both}
use Rattle.placement.specs.declared.placing.Work.{Work}
use Rattle.placement.specs.declared.placing.Work.TheVariants.{Merge, Open}

-- what is done in each case; a ring is closed as two chains are merged
abbrev pub work_for : Case → ℕ → ℕ → Work
work_for new_chain a b = Open Neither None
work_for (extends first_named) a b = Open Neither (Some (vertex_of a))
work_for (extends second_named) a b = Open Neither (Some (vertex_of b))
work_for merges a b = Merge
work_for closes a b = Merge
work_for (split_extends first_named) a b = Open (One (vertex_of b) (vertex_of a)) (Some (vertex_of a))
work_for (split_extends second_named) a b = Open (One (vertex_of a) (vertex_of b)) (Some (vertex_of b))
work_for (split_new first_named) a b = Open (One (vertex_of a) (vertex_of b)) None
work_for (split_new second_named) a b = Open (One (vertex_of b) (vertex_of a)) None
work_for split_both a b = Open Both None

-- edge e comes to v: an isolated one gets e as its low side, any other is left
unfoldable pub meet_in : List ℕ → List ℕ → ℕ → ℕ → List ℕ
meet_in degrees sides v e = if eqb (get_or degrees v 0) 0 then set_pair sides v e 0 else sides

-- the tables that change with the chains, the counts, and whether a ring is closed
pub record Placed : Type 0 where
  pub degrees : List ℕ
  pub sides : List ℕ
  pub labels : List ℕ
  pub blocks : ℕ
  pub relabellings : ℕ
  pub ring : Bool

abbrev pub placed : List ℕ → List ℕ → List ℕ → ℕ → ℕ → Bool → Placed
placed degrees sides labels blocks relabellings ring =
    record { degrees = degrees; sides = sides; labels = labels; blocks = blocks; relabellings = relabellings; ring = ring }

-- both ends opened: those that are split, and then the edge comes to each
unfoldable pub opened_in : Splits → List ℕ → List ℕ → List ℕ → List ℕ → ℕ → ℕ → ℕ → ℕ → Bool → Placed
opened_in splits degrees sides ends labels blocks a b e rings =
    let c = split_ends_in splits degrees sides ends labels blocks a b e rings in
    placed (raise_both_in degrees a b) (meet_in degrees (meet_in degrees c.sides a e) b e) c.labels c.blocks c.relabellings
    c.ring

-- .. and then the chain of the leaf x goes on
unfoldable pub goes_on_in : Placed → List ℕ → ℕ → ℕ → Placed
goes_on_in p ends x e =
    let g = extend_in p.degrees p.sides ends p.labels p.blocks x e in
    placed p.degrees g.sides g.labels g.count p.relabellings false

abbrev pub open_in : Splits → Option Vertex → List ℕ → List ℕ → List ℕ → List ℕ → ℕ → ℕ → ℕ → ℕ → Bool → Placed
open_in splits None degrees sides ends labels blocks a b e rings = opened_in splits degrees sides ends labels blocks a b e rings
open_in splits (Some x) degrees sides ends labels blocks a b e rings =
    goes_on_in (opened_in splits degrees sides ends labels blocks a b e rings) ends x.0 e

-- both are leaves
unfoldable pub merged_in : List ℕ → List ℕ → List ℕ → List ℕ → ℕ → ℕ → ℕ → ℕ → Placed
merged_in degrees sides ends labels blocks a b e =
    let c = merge_in degrees sides ends labels blocks a b e e in
    placed (raise_both_in degrees a b) c.sides c.labels c.blocks c.relabellings c.ring

abbrev pub work_in : Work → List ℕ → List ℕ → List ℕ → List ℕ → ℕ → ℕ → ℕ → ℕ → Bool → Placed
work_in Merge degrees sides ends labels blocks a b e rings = merged_in degrees sides ends labels blocks a b e
work_in (Open splits extension) degrees sides ends labels blocks a b e rings =
    open_in splits extension degrees sides ends labels blocks a b e rings

abbrev pub place_in : Case → List ℕ → List ℕ → List ℕ → List ℕ → ℕ → ℕ → ℕ → ℕ → Bool → Placed
place_in case degrees sides ends labels blocks a b e rings =
    work_in (work_for case a b) degrees sides ends labels blocks a b e rings

-- edge e placed in the tables, by the degrees of its ends; rings: a ring may stand
abbrev pub placed_by : Tables → Counts → Bool → Edge → Placed
placed_by t c rings e =
    place_in (case_of (class_of (get_or t.degrees e.first 0)) (class_of (get_or t.degrees e.second 0)))
    t.degrees t.sides t.ends t.labels c.blocks e.first e.second c.edges rings
