-- A chain looked through for a label in one walk, as functions of lists that mirror the code. A walker stands at vertex v, which it reached
-- by edge d; n bounds its steps. A vertex v stands for "v or nobody" as v + 1, and 0 is nobody.
use Rattle.std.specs.Prelude.{ℕ, zero, suc, ◌+◌, ◌*◌, min, Bool, not, List, get_or, eqb, if◌then◌else◌}
use Rattle.std.proofs.Math.Option.{Option, none, some}
use Rattle.model.specs.Queries.{Reply, found}
use Rattle.tables.specs.Steps.{far_in, more16, turn_in, sum32}
use Rattle.chains.specs.Chains.{goes_on_in}

-- what is known of the edges that a walk has gone along: the vertex that wears the label, or nobody; the lengths before it and behind it;
-- the least number
pub record Seen : Type 0 where
  pub wearer : ℕ
  pub before : ℕ
  pub behind : ℕ
  pub lowest : ℕ

abbrev pub seen : ℕ → ℕ → ℕ → ℕ → Seen
seen w b h x = record { wearer = w; before = b; behind = h; lowest = x }

-- the first that wears the label: one before vertex v, or v
unfoldable pub wearer_in : List ℕ → ℕ → ℕ → ℕ → ℕ
wearer_in labels label zero v = if eqb (get_or labels v 0) label then more16 v else 0
wearer_in labels label (suc w) v = suc w

-- edge d more, along which the walk leaves vertex v
unfoldable pub with_edge : List ℕ → List ℕ → ℕ → Seen → ℕ → ℕ → Seen
with_edge lengths labels label s v d =
    let w = wearer_in labels label s.wearer v in
    let own = get_or lengths d 0 in
    let low = min d s.lowest in
    if eqb w 0 then seen w (sum32 s.before own) s.behind low else seen w s.before (sum32 s.behind own) low

-- where a walk ends, and what is known then
pub record Look : Type 0 where
  pub at : ℕ
  pub known : Seen

abbrev pub look : ℕ → Seen → Look
look v s = record { at = v; known = s }

unfoldable pub look_in : List ℕ → List ℕ → List ℕ → List ℕ → List ℕ → ℕ → ℕ → ℕ → Seen → ℕ → ℕ → Look
look_in degrees sides ends lengths labels label home zero s d v = look v s
look_in degrees sides ends lengths labels label home (suc n) s d v =
    let c = turn_in sides d v in
    let rest = look_in degrees sides ends lengths labels label home n (with_edge lengths labels label s v c) c (far_in ends c v) in
    if goes_on_in degrees home v then rest else look v s

-- from vertex v along its edge `on`, to the chain's end, or round a ring to v again; `back` is its other edge
unfoldable pub look_along_in : List ℕ → List ℕ → List ℕ → List ℕ → List ℕ → ℕ → ℕ → ℕ → ℕ → ℕ → Look
look_along_in degrees sides ends lengths labels label n v on back =
    look_in degrees sides ends lengths labels label v n (with_edge lengths labels label (seen 0 0 0 back) v on) on (far_in ends on v)

-- What is told of the vertex that wears the label: the name, itself, and the lengths to the low and to the high end. On the way up the low
-- end lies behind the edge `back`, on the way down the high end; a walk round a ring has come home, to a regular vertex.
unfoldable pub told_in : List ℕ → List ℕ → Bool → ℕ → Look → Option Reply
told_in degrees lengths up back l =
    let s = l.known in
    let near = sum32 (get_or lengths back 0) s.before in
    elim s.wearer [
      | zero ↦ none
      | suc w ↦ some (if eqb (get_or degrees l.at 0) 2 then found s.lowest w 0 (sum32 s.before s.behind)
          else (if up then found s.lowest w near s.behind else found s.lowest w s.behind near))
    ]

-- of the two edges of v on its chain the one towards the high end, or the one towards the low end
unfoldable pub edge_towards : List ℕ → Bool → ℕ → ℕ
edge_towards sides up v = if up then get_or sides (2 * v + 1) 0 else get_or sides (2 * v) 0

-- the chain or ring of which v has the lowest label is looked through upwards, or that of which v has the highest downwards
unfoldable pub look_through_in : List ℕ → List ℕ → List ℕ → List ℕ → List ℕ → ℕ → ℕ → Bool → ℕ → Option Reply
look_through_in degrees sides ends lengths labels n label up v =
    let back = edge_towards sides (not up) v in
    told_in degrees lengths up back (look_along_in degrees sides ends lengths labels label n v (edge_towards sides up v) back)
