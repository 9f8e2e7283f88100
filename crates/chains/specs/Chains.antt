-- Chains found by walking over the lent tables, as functions of lists that mirror the code. A walker stands at vertex v, which it
-- reached by edge d; n bounds its steps.
use Rattle.std.specs.Prelude.{ℕ, zero, suc, ◌+◌, ◌*◌, min, max, Bool, true, false, not, ◌&&◌, ◌||◌, List, [], ◌∷◌, map, get_or, set, eqb, if◌then◌else◌}
use Rattle.tables.specs.Steps.{far_in, turn_in, sum32}

-- Whether a walker goes on at vertex v: it is regular, and not the walker's home, where a walk round a ring ends.
unfoldable pub goes_on_in : List ℕ → ℕ → ℕ → Bool
goes_on_in degrees home v = eqb (get_or degrees v 0) 2 && not (eqb v home)

-- where a walk ends, how many regular vertices it passes, the lengths of the edges behind them added up, and the least of its home
-- and those vertices
pub record WalkEnd : Type 0 where
  pub at : ℕ
  pub inner : ℕ
  pub length : ℕ
  pub lowest : ℕ

abbrev pub walk_end : ℕ → ℕ → ℕ → ℕ → WalkEnd
walk_end v k l x = record { at = v; inner = k; length = l; lowest = x }

-- k regular vertices, the least of them x, and a length l before those of w
unfoldable pub walk_ahead : ℕ → ℕ → ℕ → WalkEnd → WalkEnd
walk_ahead k l x w = walk_end w.at (k + w.inner) (sum32 l w.length) (min x w.lowest)

unfoldable pub walk_in : List ℕ → List ℕ → List ℕ → List ℕ → ℕ → ℕ → ℕ → ℕ → WalkEnd
walk_in degrees sides ends lengths home zero d v = walk_end v 0 0 home
walk_in degrees sides ends lengths home (suc n) d v =
    let c = turn_in sides d v in
    let rest = walk_in degrees sides ends lengths home n c (far_in ends c v) in
    let on = walk_ahead 1 (get_or lengths c 0) v rest in
    if goes_on_in degrees home v then on else walk_end v 0 0 home

-- ---- volumes, of which 0 is unknown

-- two volumes together: unknown if one of them is
unfoldable pub plus_volume32 : ℕ → ℕ → ℕ
plus_volume32 v w = if eqb v 0 || eqb w 0 then 0 else sum32 v w

-- the volumes of the edges behind the regular vertices that a walk passes, onto what is known so far
unfoldable pub walk_volume_in : List ℕ → List ℕ → List ℕ → List ℕ → ℕ → ℕ → ℕ → ℕ → ℕ → ℕ
walk_volume_in degrees sides ends volumes home zero known d v = known
walk_volume_in degrees sides ends volumes home (suc n) known d v =
    let c = turn_in sides d v in
    let rest = walk_volume_in degrees sides ends volumes home n (plus_volume32 known (get_or volumes c 0)) c (far_in ends c v) in
    if goes_on_in degrees home v then rest else known

-- ---- names, by marks on the edges that were passed

-- the marks, and where a walk ends
pub record Marked : Type 0 where
  pub marks : List ℕ
  pub at : ℕ

abbrev pub marked : List ℕ → ℕ → Marked
marked marks v = record { marks = marks; at = v }

-- the edges behind the regular vertices that a walk passes get marks
unfoldable pub mark_in : List ℕ → List ℕ → List ℕ → ℕ → ℕ → List ℕ → ℕ → ℕ → Marked
mark_in degrees sides ends home zero marks d v = marked marks v
mark_in degrees sides ends home (suc n) marks d v =
    let c = turn_in sides d v in
    let rest = mark_in degrees sides ends home n (set marks c 1) c (far_in ends c v) in
    if goes_on_in degrees home v then rest else marked marks v

-- All other edges on the chain of edge e get marks. The first walk has its end at e's first vertex: there it is round a ring. Else it
-- has come to a singular vertex, and the second walk goes from e's first vertex the other way.
unfoldable pub mark_chain_in : List ℕ → List ℕ → List ℕ → ℕ → List ℕ → ℕ → List ℕ
mark_chain_in degrees sides ends n marks e =
    let a = get_or ends (2 * e) 0 in
    let on = mark_in degrees sides ends a n marks e (get_or ends (2 * e + 1) 0) in
    let back = mark_in degrees sides ends on.at n on.marks e a in
    if eqb (get_or degrees on.at 0) 2 then on.marks else back.marks

-- the names among k edges from d on: those that have no mark when it is their turn
unfoldable pub sweep_in : List ℕ → List ℕ → List ℕ → ℕ → ℕ → List ℕ → ℕ → List ℕ
sweep_in degrees sides ends n zero marks d = []
sweep_in degrees sides ends n (suc k) marks d =
    elim (eqb (get_or marks d 0) 0) [
      | true ↦ d ∷ sweep_in degrees sides ends n k (mark_chain_in degrees sides ends n marks d) (suc d)
      | false ↦ sweep_in degrees sides ends n k marks (suc d)
    ]

-- the names among the first n edges, over marks that are lent
unfoldable pub names_in : List ℕ → List ℕ → List ℕ → ℕ → List ℕ → List ℕ
names_in degrees sides ends n marks = sweep_in degrees sides ends n n marks 0

-- ---- rows

-- The row of the chain named e, by one walk round a ring, or by two walks from e to the ends of a chain.
unfoldable pub row_in : List ℕ → List ℕ → List ℕ → List ℕ → List ℕ → ℕ → ℕ → List ℕ
row_in degrees sides ends lengths volumes n e =
    let a = get_or ends (2 * e) 0 in
    let b = get_or ends (2 * e + 1) 0 in
    let on = walk_in degrees sides ends lengths a n e b in
    let back = walk_in degrees sides ends lengths on.at n e a in
    let own = sum32 (get_or lengths e 0) on.length in
    let known = walk_volume_in degrees sides ends volumes a n (get_or volumes e 0) e b in
    let all = walk_volume_in degrees sides ends volumes on.at n known e a in
    if eqb (get_or degrees on.at 0) 2 then e ∷ on.lowest ∷ on.lowest ∷ (1 + on.inner) ∷ own ∷ known ∷ []
    else e ∷ min back.at on.at ∷ max back.at on.at ∷ (back.inner + on.inner) ∷ sum32 back.length own ∷ all ∷ []

unfoldable pub rows_in : List ℕ → List ℕ → List ℕ → List ℕ → List ℕ → ℕ → List ℕ → List (List ℕ)
rows_in degrees sides ends lengths volumes n names = map (row_in degrees sides ends lengths volumes n) names

-- the rows of all chains among the first n edges, over marks that are lent
unfoldable pub sheet_in : List ℕ → List ℕ → List ℕ → List ℕ → List ℕ → ℕ → List ℕ → List (List ℕ)
sheet_in degrees sides ends lengths volumes n marks = rows_in degrees sides ends lengths volumes n (names_in degrees sides ends n marks)
