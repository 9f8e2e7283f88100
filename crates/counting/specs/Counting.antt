-- How many vertices an edge would relabel, read from the tables before anything is written, as functions of lists that mirror the code.
use Rattle.std.specs.Prelude.{ℕ, zero, suc, ◌+◌, ◌*◌, ◌-◌, Bool, true, false, List, get_or, eqb, if◌then◌else◌, Some, None, Option}
use Rattle.model.specs.Labels.{is_relabelled}
use Rattle.tables.specs.Steps.{far_in, turn_in}
use Rattle.tables.specs.Walks.{Met, lockstep_in}
use Rattle.tables.specs.Rounds.{ring_in}
use Rattle.tables.specs.declared.rings.Round.{Round}
use Rattle.tables.specs.declared.rings.Round.TheVariants.{NoRing, Ring, Shared}
use Rattle.labels.specs.Labelling.{next_in, rises_in}
use Rattle.joining.specs.Merging.{keeper_for}
use Rattle.parting.specs.Splitting.{left_for}
use Rattle.joining.specs.declared.merging.Keeper.{Keeper}
use Rattle.joining.specs.declared.merging.Merger.{Merger}
use Rattle.parting.specs.declared.splitting.Rounds.{Rounds}
use Rattle.parting.specs.declared.splitting.Splits.{Splits}
use Rattle.parting.specs.declared.splitting.Splits.TheVariants as splits

-- 1 where a vertex with the label `old` is relabelled by `new`
unfoldable pub moved_in : ℕ → ℕ → ℕ
moved_in old new = if is_relabelled old new then 1 else 0

-- the regular vertices from v on, reached by edge d, that would be relabelled by the labels from `label` on
unfoldable pub count_in : List ℕ → List ℕ → List ℕ → List ℕ → Bool → ℕ → ℕ → ℕ → ℕ → ℕ
count_in degrees sides ends labels up zero d v label = 0
count_in degrees sides ends labels up (suc n) d v label =
    let c = turn_in sides d v in
    let rest = count_in degrees sides ends labels up n c (far_in ends c v) (next_in up label) in
    if eqb (get_or degrees v 0) 2 then moved_in (get_or labels v 0) label + rest else 0

-- the chains of the leaves x and y joined: x's keeps its labels; the leaves have none, so those of y's chain are counted
unfoldable pub join_count_in : List ℕ → List ℕ → List ℕ → List ℕ → ℕ → ℕ → ℕ → ℕ
join_count_in degrees sides ends labels x y n =
    let dx = get_or sides (2 * x) 0 in
    let dy = get_or sides (2 * y) 0 in
    let u = far_in ends dx x in
    let up = rises_in sides dx u in
    count_in degrees sides ends labels up n dy (far_in ends dy y) (next_in up (next_in up (next_in up (get_or labels u 0))))

abbrev pub keeper_count_in : Option Keeper → List ℕ → List ℕ → List ℕ → List ℕ → ℕ → ℕ
keeper_count_in None degrees sides ends labels n = 0
keeper_count_in (Some k) degrees sides ends labels n = join_count_in degrees sides ends labels k.kept.0 k.other.0 n

-- whether a ring would be closed, and how many vertices relabelled
pub record Estimated : Type 0 where
  pub ring : Bool
  pub count : ℕ

abbrev pub estimated : Bool → ℕ → Estimated
estimated ring count = record { ring = ring; count = count }

unfoldable pub merge_count_at : List ℕ → List ℕ → List ℕ → List ℕ → ℕ → ℕ → ℕ → Met → Estimated
merge_count_at degrees sides ends labels a b n m =
    if eqb m.first b then estimated true 0
    else estimated false (keeper_count_in (keeper_for degrees a b m) degrees sides ends labels n)

-- the chains of the leaves a and b merged, or closed to a ring
unfoldable pub merge_count_in : List ℕ → List ℕ → List ℕ → List ℕ → ℕ → ℕ → ℕ → Estimated
merge_count_in degrees sides ends labels a b n =
    let da = get_or sides (2 * a) 0 in
    let db = get_or sides (2 * b) 0 in
    merge_count_at degrees sides ends labels a b n (lockstep_in degrees sides ends n da (far_in ends da a) db (far_in ends db b))

-- a tap gives all others of the ring labels of a new block; the other end of the edge, if it shares the ring, loses its label
abbrev pub round_count : Round → ℕ
round_count NoRing = 0
round_count (Ring others) = others
round_count (Shared others) = others - 1

-- the regular ends of the edge between a and b split; a ring is looked for where one may stand
unfoldable pub split_count_in : Splits → List ℕ → List ℕ → List ℕ → ℕ → ℕ → ℕ → Bool → ℕ
split_count_in splits.Neither degrees sides ends a b n rings = 0
split_count_in (splits.One v w) degrees sides ends a b n rings = if rings then round_count (ring_in degrees sides ends v.0 w.0 n) else 0
split_count_in splits.Both degrees sides ends a b n rings =
    if rings then round_count (ring_in degrees sides ends a b n) + round_count (left_for (ring_in degrees sides ends b a n)) else 0

-- ---- of what was decided before (labels/specs: `merger_for`, `rounds_for`)

-- the chains merged; a ring relabels nothing, since neither chain keeps labels then
abbrev pub merger_count : Merger → List ℕ → List ℕ → List ℕ → List ℕ → ℕ → Estimated
merger_count by degrees sides ends labels n = estimated by.ring (keeper_count_in by.keeper degrees sides ends labels n)

-- the regular ends split
abbrev pub rounds_count : Rounds → ℕ
rounds_count by = round_count by.first + round_count by.second
