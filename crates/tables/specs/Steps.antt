-- Single steps on the lent tables, as functions of lists that mirror the code. A read past a table's end gives 0 and a write past it
-- changes nothing; a sum stops at the largest number of its type. That no register meets these ends is a theorem on the definitions.
use Rattle.std.specs.Prelude.{◌≡◌, ℕ, ◌+◌, ◌*◌, min, Bool, true, List, [], length, get_or, set, replicate, eqb, if◌then◌else◌}
use Rattle.model.specs.Graph.{Edge}
use Rattle.model.specs.Tables.{Tables, stored_edge, stored_edges}
use Rattle.tables.specs.Meaning.{tables}

-- the answer r tells whether a is b
abbrev pub Tells : {A : Type 0} → Bool → A → A → Type 0
Tells r a b = (r ≡ true → a ≡ b) × (a ≡ b → r ≡ true)

-- the end of edge d that is not v
unfoldable pub far_in : List ℕ → ℕ → ℕ → ℕ
far_in ends d v = if eqb (get_or ends (2 * d) 0) v then get_or ends (2 * d + 1) 0 else get_or ends (2 * d) 0

-- the edge at the regular vertex v that is not d
unfoldable pub turn_in : List ℕ → ℕ → ℕ → ℕ
turn_in sides d v = if eqb (get_or sides (2 * v) 0) d then get_or sides (2 * v + 1) 0 else get_or sides (2 * v) 0

-- the two elements of vertex or edge i: its sides, or its ends
unfoldable pub set_pair : List ℕ → ℕ → ℕ → ℕ → List ℕ
set_pair xs i a b = set (set xs (2 * i) a) (2 * i + 1) b

-- the largest numbers of 16 and of 32 bits
abbrev pub most16 : ℕ
most16 = 65535

abbrev pub most32 : ℕ
most32 = 4294967295

unfoldable pub more16 : ℕ → ℕ
more16 n = min (n + 1) most16

unfoldable pub more32 : ℕ → ℕ
more32 n = min (n + 1) most32

unfoldable pub sum32 : ℕ → ℕ → ℕ
sum32 m n = min (m + n) most32

-- one more edge end at vertex v
unfoldable pub raise_in : List ℕ → ℕ → List ℕ
raise_in degrees v = set degrees v (more16 (get_or degrees v 0))

unfoldable pub raise_both_in : List ℕ → ℕ → ℕ → List ℕ
raise_both_in degrees v w = raise_in (raise_in degrees v) w

-- zeros of the sizes that the tables have
unfoldable pub zeroed : Tables → Tables
zeroed t =
    tables (replicate (length t.degrees) 0) (replicate (length t.sides) 0) (replicate (length t.ends) 0)
    (replicate (length t.lengths) 0) (replicate (length t.volumes) 0) (replicate (length t.labels) 0)

-- edge e, and the first m: edges stand in the tables of ends, lengths and volumes alone
abbrev pub edge_of : List ℕ → List ℕ → List ℕ → ℕ → Edge
edge_of ends lengths volumes e = stored_edge (tables [] [] ends lengths volumes []) e

abbrev pub edges_of : List ℕ → List ℕ → List ℕ → ℕ → List Edge
edges_of ends lengths volumes m = stored_edges (tables [] [] ends lengths volumes []) m
