-- What an insertion does to the sides and the labels, as functions of lists that mirror the code.
use Rattle.std.specs.Prelude.{ℕ, zero, suc, ◌+◌, ◌*◌, ◌-◌, Bool, true, not, List, get_or, set, eqb, if◌then◌else◌}
use Rattle.model.specs.Labels.{base, is_relabelled}
use Rattle.tables.specs.Steps.{far_in, turn_in, set_pair, more16, more32}

-- the two tables, and a count: of blocks, or of relabelled vertices
pub record MarksIn : Type 0 where
  pub sides : List ℕ
  pub labels : List ℕ
  pub count : ℕ

abbrev pub marks_in : List ℕ → List ℕ → ℕ → MarksIn
marks_in sides labels count = record { sides = sides; labels = labels; count = count }

-- n counted before those of w
unfoldable pub count_ahead : ℕ → MarksIn → MarksIn
count_ahead n w = marks_in w.sides w.labels (n + w.count)

-- the next label, upwards or downwards
unfoldable pub next_in : Bool → ℕ → ℕ
next_in up label = if up then more32 label else label - 1

-- the sides of vertex v: upwards the edge before it is the low one
unfoldable pub orient_in : Bool → List ℕ → ℕ → ℕ → ℕ → List ℕ
orient_in up sides v before after = if up then set_pair sides v before after else set_pair sides v after before

-- vertex v with a label and its sides; the count is 1 where it is relabelled
unfoldable pub label_vertex_in : List ℕ → List ℕ → ℕ → ℕ → ℕ → ℕ → Bool → MarksIn
label_vertex_in sides labels v label before after up =
    marks_in (orient_in up sides v before after) (set labels v label) (if is_relabelled (get_or labels v 0) label then 1 else 0)

-- the regular vertices from v on, reached by edge d, get the labels from `label` on; the count is that of the relabelled
unfoldable pub relabel_in : List ℕ → List ℕ → Bool → ℕ → List ℕ → List ℕ → ℕ → ℕ → ℕ → MarksIn
relabel_in degrees ends up zero sides labels d v label = marks_in sides labels 0
relabel_in degrees ends up (suc n) sides labels d v label =
    let c = turn_in sides d v in
    let w = label_vertex_in sides labels v label d c up in
    let rest = relabel_in degrees ends up n w.sides w.labels c (far_in ends c v) (next_in up label) in
    if eqb (get_or degrees v 0) 2 then count_ahead w.count rest else marks_in sides labels 0

-- whether labels rise from vertex v back over its edge d: d is not the low one
abbrev pub rises_in : List ℕ → ℕ → ℕ → Bool
rises_in sides d v = not (eqb (get_or sides (2 * v) 0) d)

-- the leaf x, whose one edge is d with the far end u, gets the next label beyond u's; e is its other edge
unfoldable pub beyond_in : List ℕ → List ℕ → ℕ → ℕ → ℕ → ℕ → MarksIn
beyond_in sides labels x e d u =
    let up = rises_in sides d u in
    let h = label_vertex_in sides labels x (next_in up (get_or labels u 0)) d e up in
    marks_in h.sides h.labels 0

-- the chain at the leaf x, whose one edge is d with the far end u, goes on over edge e; the count is that of blocks
unfoldable pub extend_at : List ℕ → List ℕ → List ℕ → ℕ → ℕ → ℕ → ℕ → ℕ → MarksIn
extend_at degrees sides labels blocks x e d u =
    let h = beyond_in sides labels x e d u in
    let g = label_vertex_in sides labels x (base (more16 blocks)) d e true in
    if eqb (get_or degrees u 0) 2 then marks_in h.sides h.labels blocks else marks_in g.sides g.labels (more16 blocks)

unfoldable pub extend_in : List ℕ → List ℕ → List ℕ → List ℕ → ℕ → ℕ → ℕ → MarksIn
extend_in degrees sides ends labels blocks x e =
    let d = get_or sides (2 * x) 0 in
    extend_at degrees sides labels blocks x e d (far_in ends d x)
