-- Document 02, S-10, "Eight houses on one licence": shares and edges by house, as lists of eight numbers, and what one house may have.
use Rattle.std.specs.Prelude.{ℕ, ◌+◌, ◌-◌, max, Bool, ◌||◌, List, [], ◌∷◌, get_or, set, ltb}
use Rattle.model.specs.Basics.{sum}

-- "A nursery runs up to eight registers"
abbrev pub houses : ℕ
houses = 8

-- "under one limit of 4,096 pipes"
abbrev pub licence : ℕ
licence = 4096

-- "the larger of share and pipes", of each house
unfoldable pub reserves : List ℕ → List ℕ → List ℕ
reserves [] edges = []
reserves (s ∷ shares) [] = []
reserves (s ∷ shares) (n ∷ edges) = max s n ∷ reserves shares edges

-- ".., summed over them, passes 4,096"
unfoldable pub overfull : List ℕ → List ℕ → Bool
overfull shares edges = ltb licence (sum (reserves shares edges))

-- what a house has not used of its share, of each
unfoldable pub unused : List ℕ → List ℕ → List ℕ
unused [] edges = []
unused (s ∷ shares) [] = []
unused (s ∷ shares) (n ∷ edges) = (s - n) ∷ unused shares edges

-- "A house may land a pipe if it is below its share, or if the pipes of all houses plus the others' unused shares are below 4,096"
unfoldable pub may_land : ℕ → List ℕ → List ℕ → Bool
may_land h shares edges =
    ltb (get_or edges h 0) (get_or shares h 0) || ltb (sum edges + sum (set (unused shares edges) h 0)) licence

-- The same as a number, which the house's own edges do not change: what the others leave of the licence, who each keep the larger of share and
-- edges. Where 21 does not hold, a house may land an edge exactly if it has fewer edges (`OnLicence.may_land_lem`), so this is its limit.
unfoldable pub limit_of : ℕ → List ℕ → List ℕ → ℕ
limit_of h shares edges = licence - sum (set (reserves shares edges) h 0)
