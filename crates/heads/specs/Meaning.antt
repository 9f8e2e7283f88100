-- What heads and lent slices of eight houses stand for.
use Rattle.std.specs.Prelude.{ℕ, List, [], ◌∷◌, map, get_or}
use Rattle.model.specs.Queries.{Reply}
use Rattle.model.specs.Tables as T
use Rattle.counters.specs.Answers.{as_counts}
use Rattle.nursery.specs.Nursery.{Nursery}
use Rattle.nursery.specs.Calls.{Lent, Outcome}
use Rattle.counters.specs.declared.counts.Counts.{Counts}
use Rattle.heads.specs.declared.heads.Heads.{Heads}

-- the head of house h in an array
abbrev pub head_at : List Counts → ℕ → T.Counts
head_at cs h = as_counts (get_or cs h (record { vertices = 0; edges = 0; blocks = 0; relabellings = 0 }))

-- the eight elements of the arrays
unfoldable pub as_heads : Heads → List T.Counts
as_heads heads =
    let cs = heads.counts in
    head_at cs 0 ∷ head_at cs 1 ∷ head_at cs 2 ∷ head_at cs 3 ∷ head_at cs 4 ∷ head_at cs 5 ∷ head_at cs 6 ∷ head_at cs 7 ∷ []

unfoldable pub as_removals : Heads → List ℕ
as_removals heads =
    let ns = heads.removals in
    get_or ns 0 0 ∷ get_or ns 1 0 ∷ get_or ns 2 0 ∷ get_or ns 3 0 ∷ get_or ns 4 0 ∷ get_or ns 5 0 ∷ get_or ns 6 0 ∷ get_or ns 7 0 ∷ []

-- the edges of each house
unfoldable pub edges_of : Heads → List ℕ
edges_of heads = map (λ (c : T.Counts). c.edges) (as_heads heads)

-- tables, heads and shares
abbrev pub nursery : T.Tables → Heads → List ℕ → Nursery
nursery t heads shares = record { tables = t; heads = as_heads heads; removals = as_removals heads; shares = shares }

-- and scratch
abbrev pub lent : T.Tables → Heads → List ℕ → T.Tables → Lent
lent t heads shares scratch = record { nursery = nursery t heads shares; scratch = scratch }

-- what a call leaves and answers: tables, heads, shares, scratch, the lent slice, the answer
abbrev pub outcome : T.Tables → Heads → List ℕ → T.Tables → List ℕ → Reply → Outcome
outcome t heads shares scratch xs a = record { lent = lent t heads shares scratch; slice = xs; reply = a }
