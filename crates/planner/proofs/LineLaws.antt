-- A number of a line, read from the lines in front of a slice.
use mathlib.Core.Path.{◌≡◌, ap, ◌∙◌}
use Prim.Native.Nat.{ℕ, zero, suc, ◌+◌, ◌*◌, ◌<◌}
use native.Mathlib.Omega.{arith}
use mathlib.Core.List.{List, [], ◌∷◌, ◌++◌, append_assoc}
use lib.ListN.{length, get_or, drop, get_or-append}
use lib.Seq.{get_or-append-add}
use Rattle.model.specs.Basics.{in_front}
use Rattle.model.specs.Queries.{concat}
use Rattle.planner.specs.Windows.{Window}
use Rattle.planner.specs.Planning.{Reply, plan}
use Rattle.planner.specs.Lines.{line_volume}

-- each row has k numbers
abbrev pub Wide : ℕ → List (List ℕ) → Type 0
Wide k [] = Unit {0}
Wide k (r ∷ rs) = (length r ≡ k) × Wide k rs

pub number_of_row : (k j : ℕ) (rows : List (List ℕ)) (rest : List ℕ) (i : ℕ) → Wide k rows → j < k → i < length rows
    → get_or (concat rows ++ rest) (k * i + j) 0 ≡ get_or (get_or rows i []) j 0
unfolding concat
number_of_row k j [] rest i w l h = absurd (omega arith)
number_of_row k j (r ∷ rows) rest zero w l h =
    let e : k * 0 + j ≡ j = omega arith in
    rw (e, append_assoc r (concat rows) rest) (get_or-append r (concat rows ++ rest) 0 j (omega (arith, w.0)))
number_of_row k j (r ∷ rows) rest (suc i) w l h =
    let e : k * suc i + j ≡ length r + (k * i + j) = omega (arith, w.0) in
    rw (e, append_assoc r (concat rows) rest) (get_or-append-add r (concat rows ++ rest) (k * i + j) 0 ∙ number_of_row k j rows rest i w.1 l (omega arith))

-- what `sheet` leaves in a lent slice: the volume of line i is the last number of row i
pub line_of_row : (rows : List (List ℕ)) (slice : List ℕ) (i : ℕ) → Wide 6 rows → i < length rows
    → line_volume (in_front (concat rows) slice) i ≡ get_or (get_or rows i []) 5 0
unfolding line_volume in_front
line_of_row rows slice i w h = number_of_row 6 5 rows (drop (length (concat rows)) slice) i w (omega arith) h

-- the plan of a volume that was read is the plan of the line's volume
pub plan_of_line : (volume read flow given : ℕ) (ws : List Window) (a : Reply) → a ≡ plan read flow given ws → read ≡ volume
    → a ≡ plan volume flow given ws
plan_of_line volume read flow given ws a e q = e ∙ ap (λ (v : ℕ). plan v flow given ws) q
