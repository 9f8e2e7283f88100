-- What the struct of this crate means.
use Rattle.std.specs.Prelude.{ℕ, List, [], ◌∷◌}
use Rattle.chains.specs.declared.rows.Row.{Row}

-- "name, end with the lower number, other end, couplings, length", and the volume (S-4)
abbrev pub row_of : Row → List ℕ
row_of r = r.name.0 ∷ r.lower.0 ∷ r.other.0 ∷ r.inner ∷ r.length.0 ∷ r.volume.0 ∷ []
