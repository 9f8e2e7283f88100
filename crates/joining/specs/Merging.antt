-- Two chains become one, or one a ring, as functions of lists that mirror the code.
use Rattle.std.specs.Prelude.{ℕ, ◌+◌, ◌*◌, Bool, true, false, List, get_or, eqb, if◌then◌else◌, Option, Some, None}
use Rattle.model.specs.Labels.{base}
use Rattle.counters.specs.Numbers.{vertex_of}
use Rattle.counters.specs.declared.numbers.Vertex.{Vertex}
use Rattle.tables.specs.Steps.{far_in, more16}
use Rattle.tables.specs.Walks.{Met, lockstep_in}
use Rattle.labels.specs.Labelling.{MarksIn, marks_in, count_ahead, rises_in, label_vertex_in, relabel_in, beyond_in, next_in}
use Rattle.labels.specs.Changes.{Changed, changed}
use Rattle.joining.specs.declared.merging.Keeper.{Keeper}
use Rattle.joining.specs.declared.merging.Merger.{Merger}

-- the chains of the leaves x and y joined by edge e: x's keeps its labels, y's gets those that follow
unfoldable pub join_in : List ℕ → List ℕ → List ℕ → List ℕ → ℕ → ℕ → ℕ → ℕ → MarksIn
join_in degrees sides ends labels x y e n =
    let dx = get_or sides (2 * x) 0 in
    let dy = get_or sides (2 * y) 0 in
    let u = far_in ends dx x in
    let up = rises_in sides dx u in
    let lx = next_in up (get_or labels u 0) in
    let ly = next_in up lx in
    let h = label_vertex_in sides labels x lx dx e up in
    let g = label_vertex_in h.sides h.labels y ly e dy up in
    count_ahead h.count (count_ahead g.count
    (relabel_in degrees ends up n g.sides g.labels dy (far_in ends dy y) (next_in up ly)))

-- the neighbours a and b become the first regular vertices of their chain, in block k
unfoldable pub begin_in : List ℕ → List ℕ → ℕ → ℕ → ℕ → ℕ → ℕ → ℕ → MarksIn
begin_in sides labels a before b after between k =
    let h = label_vertex_in sides labels a (base k) before between true in
    let g = label_vertex_in h.sides h.labels b (base k + 1) between after true in
    marks_in g.sides g.labels 0

-- edge e closes a ring between the leaves a and b of one chain; their edges are da and db, with the far ends ua and ub
unfoldable pub close_in : List ℕ → List ℕ → ℕ → ℕ → ℕ → ℕ → ℕ → ℕ → ℕ → ℕ → Changed
close_in sides labels blocks a b e da ua db ub =
    let g = begin_in sides labels a e b e da (more16 blocks) in
    let h = beyond_in sides labels a e da ua in
    let j = beyond_in h.sides h.labels b e db ub in
    if eqb ua b then changed g.sides g.labels (more16 blocks) 0 true
    else changed j.sides j.labels blocks 0 true

abbrev pub keeping : Vertex → Vertex → Keeper
keeping x y = record { kept = x; other = y }

-- which chain keeps its labels, a's or b's, by where the walks in lockstep met
unfoldable pub keeper_for : List ℕ → ℕ → ℕ → Met → Option Keeper
keeper_for degrees a b m =
    if eqb (get_or degrees m.second 0) 2 then Some (keeping (vertex_of b) (vertex_of a))
    else if eqb (get_or degrees m.first 0) 2 then Some (keeping (vertex_of a) (vertex_of b))
    else if eqb m.steps 0 then None
    else Some (keeping (vertex_of a) (vertex_of b))

-- the chains merged, by which of them keeps its labels
abbrev pub keeper_in : Option Keeper → List ℕ → List ℕ → List ℕ → List ℕ → ℕ → ℕ → ℕ → ℕ → ℕ → ℕ → ℕ → Changed
keeper_in None degrees sides ends labels blocks a b e n da db =
    let g = begin_in sides labels a da b db e (more16 blocks) in
    changed g.sides g.labels (more16 blocks) 0 false
keeper_in (Some k) degrees sides ends labels blocks a b e n da db =
    let j = join_in degrees sides ends labels k.kept.0 k.other.0 e n in
    changed j.sides j.labels blocks j.count false

unfoldable pub merge_at : List ℕ → List ℕ → List ℕ → List ℕ → ℕ → ℕ → ℕ → ℕ → ℕ → ℕ → ℕ → Met → Changed
merge_at degrees sides ends labels blocks a b e n da db m =
    if eqb m.first b then close_in sides labels blocks a b e da (far_in ends da a) db (far_in ends db b)
    else keeper_in (keeper_for degrees a b m) degrees sides ends labels blocks a b e n da db

-- the chains of the leaves a and b are merged over edge e
unfoldable pub merge_in : List ℕ → List ℕ → List ℕ → List ℕ → ℕ → ℕ → ℕ → ℕ → ℕ → Changed
merge_in degrees sides ends labels blocks a b e n =
    let da = get_or sides (2 * a) 0 in
    let db = get_or sides (2 * b) 0 in
    merge_at degrees sides ends labels blocks a b e n da db
    (lockstep_in degrees sides ends n da (far_in ends da a) db (far_in ends db b))

-- ---- decided first, and then done

abbrev pub merger : Bool → Option Keeper → Merger
merger ring keeper = record { ring = ring; keeper = keeper }

-- whether a ring would be closed and, if not, which chain would keep its labels, by where the walks in lockstep met
unfoldable pub merger_at : List ℕ → ℕ → ℕ → Met → Merger
merger_at degrees a b m = if eqb m.first b then merger true None else merger false (keeper_for degrees a b m)

unfoldable pub merger_for : List ℕ → List ℕ → List ℕ → ℕ → ℕ → ℕ → Merger
merger_for degrees sides ends a b n =
    let da = get_or sides (2 * a) 0 in
    let db = get_or sides (2 * b) 0 in
    merger_at degrees a b (lockstep_in degrees sides ends n da (far_in ends da a) db (far_in ends db b))

-- the chains of the leaves a and b merged as decided; by `merge_decided` in Merges this is `merge_in` where `merger_for` decided
unfoldable pub merge_by : Merger → List ℕ → List ℕ → List ℕ → List ℕ → ℕ → ℕ → ℕ → ℕ → ℕ → Changed
merge_by by degrees sides ends labels blocks a b e n =
    let da = get_or sides (2 * a) 0 in
    let db = get_or sides (2 * b) 0 in
    if by.ring then close_in sides labels blocks a b e da (far_in ends da a) db (far_in ends db b)
    else keeper_in by.keeper degrees sides ends labels blocks a b e n da db
