-- Whether a regular vertex lies on a ring, as functions of lists that mirror the code.
use Rattle.std.specs.Prelude.{ℕ, zero, suc, ◌+◌, ◌*◌, Bool, false, ◌||◌, List, get_or, eqb, ltb, if◌then◌else◌}
use Rattle.tables.specs.Steps.{far_in, turn_in}
use Rattle.tables.specs.declared.rings.Round.{Round}
use Rattle.tables.specs.declared.rings.Round.TheVariants.{NoRing, Ring, Shared}

-- the lower-numbered of the two edges of the regular vertex v
unfoldable pub lower_in : List ℕ → ℕ → ℕ
lower_in sides v =
    if ltb (get_or sides (2 * v) 0) (get_or sides (2 * v + 1) 0) then get_or sides (2 * v) 0 else get_or sides (2 * v + 1) 0

-- a walker is back after n steps, and has met the other vertex or not
unfoldable pub back_in : ℕ → Bool → Round
back_in n met = if met then Shared n else Ring n

-- Two walkers that left v, after k steps of each, with n more to take at most: the first came to x by edge d, the second to y by
-- edge c. `met`: the first has met w.
unfoldable pub round_in : List ℕ → List ℕ → List ℕ → ℕ → ℕ → ℕ → ℕ → Bool → ℕ → ℕ → ℕ → ℕ → Round
round_in degrees sides ends v w zero k met d x c y = NoRing
round_in degrees sides ends v w (suc n) k met d x c y =
    let d' = turn_in sides d x in
    let c' = turn_in sides c y in
    let on = round_in degrees sides ends v w n (k + 1) (met || eqb x w) d' (far_in ends d' x) c' (far_in ends c' y) in
    if eqb (get_or degrees x 0) 2
    then (if eqb (get_or degrees y 0) 2 then (if eqb x v then back_in k met else on) else NoRing)
    else NoRing

-- the ring of the regular vertex v, if it lies on one, and whether w lies on it too
unfoldable pub ring_in : List ℕ → List ℕ → List ℕ → ℕ → ℕ → ℕ → Round
ring_in degrees sides ends v w n =
    let d = lower_in sides v in
    let c = turn_in sides d v in
    round_in degrees sides ends v w n 0 false d (far_in ends d v) c (far_in ends c v)
