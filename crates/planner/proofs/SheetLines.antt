-- The tie to the register: what its sheet leaves in a lent slice has, in line i, the volume of the i-th run or ring.
use mathlib.Core.Path.{◌≡◌, refl, ap, ◌∙◌}
use Prim.Native.Nat.{ℕ, zero, suc, ◌<◌}
use native.Mathlib.Omega.{arith}
use mathlib.Core.Bool.{Bool, true, false}
use mathlib.Core.List.{List, [], ◌∷◌}
use lib.ListN.{length, get_or}
use lib.Dec.{eqb, ltb}
use Rattle.model.specs.Basics.{in_front, up_to}
use Rattle.model.specs.Graph.{Edge, name_of, chain_volume}
use Rattle.model.specs.Register.{Register}
use Rattle.model.specs.Queries.{listed, refuses, row, rows_of, sheet, sheet_numbers}
use Rattle.model.specs.Calls.{House, sheeting, fills, answer}
use Rattle.planner.specs.Windows.{Window}
use Rattle.planner.specs.Planning.{plan}
use Rattle.planner.specs.Lines.{line_volume}
use Rattle.planner.proofs.LineLaws.{Wide, line_of_row}

-- each row has six numbers
rows_wide : (es : List Edge) (ds : List ℕ) → Wide 6 (rows_of es ds)
unfolding rows_of row
rows_wide es [] = tt
rows_wide es (d ∷ ds) = go (eqb (name_of es d) d) refl (rows_wide es ds)
  where
    go : (b : Bool) → eqb (name_of es d) d ≡ b → Wide 6 (rows_of es ds) → Wide 6 (rows_of es (d ∷ ds))
    go true q rest = rw (q, rows_of) (refl, rest)
    go false q rest = rw (q, rows_of) rest

-- its last is the volume of the run or ring that its first names
rows_volume : (es : List Edge) (ds : List ℕ) (i : ℕ) → i < length (rows_of es ds)
    → get_or (get_or (rows_of es ds) i []) 5 0 ≡ chain_volume es (get_or (get_or (rows_of es ds) i []) 0 0)
unfolding rows_of row
rows_volume es [] i h = absurd (omega arith)
rows_volume es (d ∷ ds) i h = go (eqb (name_of es d) d) refl i h (λ j k. rows_volume es ds j k)
  where
    go : (b : Bool) → eqb (name_of es d) d ≡ b → (i : ℕ) → i < length (rows_of es (d ∷ ds))
        → ((j : ℕ) → j < length (rows_of es ds) → get_or (get_or (rows_of es ds) j []) 5 0 ≡ chain_volume es (get_or (get_or (rows_of es ds) j []) 0 0))
        → get_or (get_or (rows_of es (d ∷ ds)) i []) 5 0 ≡ chain_volume es (get_or (get_or (rows_of es (d ∷ ds)) i []) 0 0)
    go true q zero h ih = rw (q, rows_of)
    go true q (suc i) h ih =
        let k : suc i < suc (length (rows_of es ds)) = rw (q, rows_of) at h in
        rw (q, rows_of) (ih i (omega arith))
    go false q i h ih =
        let k : i < length (rows_of es ds) = rw (q, rows_of) at h in
        rw (q, rows_of) (ih i k)

pub sheet_line : (r : Register) (slice : List ℕ) (i : ℕ) → i < length (sheet r)
    → line_volume (in_front (sheet_numbers r) slice) i ≡ chain_volume r.edges (get_or (get_or (sheet r) i []) 0 0)
unfolding sheet_numbers sheet
sheet_line r slice i h =
    line_of_row (sheet r) slice i (rows_wide r.edges (up_to (length r.edges))) h ∙ rows_volume r.edges (up_to (length r.edges)) i h

-- so of every sheet that is answered: a slice that was too short is refused, and no line is read from it
pub answered_line : (s : House) (slice : List ℕ) (n i : ℕ) → (answer (sheeting slice) s).reply ≡ listed n → i < n
    → line_volume (answer (sheeting slice) s).slice i ≡ chain_volume s.register.edges (get_or (get_or (sheet s.register) i []) 0 0)
unfolding answer fills
answered_line s slice n i e h = go (ltb (length slice) (length (sheet_numbers r))) refl
  where
    r : Register
    r = s.register

    go : (b : Bool) → ltb (length slice) (length (sheet_numbers r)) ≡ b
        → line_volume (answer (sheeting slice) s).slice i ≡ chain_volume r.edges (get_or (get_or (sheet r) i []) 0 0)
    go true q = let z : refuses 9 ≡ listed n = rw q at e in absurd (let y : ◌≡◌ {A = ℕ} 0 1 = cc in omega arith)
    go false q =
        let z : listed (length (sheet r)) ≡ listed n = rw q at e in
        let k : length (sheet r) ≡ n = cc in
        rw q (sheet_line r slice i (omega arith))

-- so a plan with the volume that is read from a line is the plan of the run or ring that the line names
pub planned_line : (s : House) (slice : List ℕ) (n i : ℕ) → (answer (sheeting slice) s).reply ≡ listed n → i < n
    → (flow given : ℕ) (ws : List Window)
    → plan (line_volume (answer (sheeting slice) s).slice i) flow given ws ≡ plan (chain_volume s.register.edges (get_or (get_or (sheet s.register) i []) 0 0)) flow given ws
planned_line s slice n i e h flow given ws = ap (λ (v : ℕ). plan v flow given ws) (answered_line s slice n i e h)
