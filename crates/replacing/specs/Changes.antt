-- The vertices whose labels differ, as functions that mirror the code.
use Rattle.std.specs.Prelude.{ℕ, zero, suc, ◌+◌, List, [], ◌∷◌, ◌++◌, get_or, eqb, if◌then◌else◌}
use Rattle.nursery.specs.Removal.{Change}

-- vertex v, where its label differs
unfoldable pub change_at : ℕ → ℕ → ℕ → List Change
change_at v old new = if eqb old new then [] else record { vertex = v; old = old; new = new } ∷ []

-- of n vertices from v on, those whose labels differ
unfoldable pub changes_in : List ℕ → List ℕ → ℕ → ℕ → List Change
changes_in olds news zero v = []
changes_in olds news (suc n) v = change_at v (get_or olds v 0) (get_or news v 0) ++ changes_in olds news n (v + 1)
