-- The houses of a nursery one by one, as functions that mirror the code.
use Rattle.std.specs.Prelude.{◌≡◌, ℕ, zero, suc, ◌+◌, ◌*◌, Bool, true, false, ◌&&◌, List, map, length, get_or, eqb}
use Rattle.std.proofs.Math.Option.{none, some}
use Rattle.model.specs.Tables.{Tables, Counts, Stored, eq_list, held, no_counts, right_sizes, sizes}
use Rattle.nursery.specs.Licence.{houses}
use Rattle.nursery.specs.Nursery.{tables_in}

-- the sizes of eight houses' tables, and of the shares
unfoldable pub tables_fit : Tables → Bool
tables_fit t = eq_list (sizes t) (map (λ (k : ℕ). houses * k) right_sizes)

unfoldable pub eight_fit : Tables → List ℕ → Bool
eight_fit t shares = tables_fit t && eqb (length shares) houses

-- so long are they
abbrev pub Long : Tables → Type 0
Long t =
    (length t.degrees ≡ 32768) × (length t.sides ≡ 65536) × (length t.ends ≡ 65536) × (length t.lengths ≡ 32768)
    × (length t.volumes ≡ 32768) × (length t.labels ≡ 32768)

-- whether tables and counts hold a register
unfoldable pub is_held : Stored → Bool
is_held s = elim (held s) [ some r ↦ true | none ↦ false ]

-- whether house h holds one, if it is not the one that is left out
unfoldable pub passes_in : Tables → List Counts → ℕ → ℕ → Bool
passes_in t heads house h =
    elim (eqb h house) [ true ↦ true | false ↦ is_held (record { tables = tables_in h t; counts = get_or heads h no_counts }) ]

-- k houses from h on
unfoldable pub others_in : Tables → List Counts → ℕ → ℕ → ℕ → Bool
others_in t heads house zero h = true
others_in t heads house (suc k) h = elim (passes_in t heads house h) [ true ↦ others_in t heads house k (h + 1) | false ↦ false ]
