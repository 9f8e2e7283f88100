-- What two texts have in common at their beginning, in bytes and in line ends; and the verdict for which a comparison stands.
use Rattle.std.specs.Prelude.{ℕ, suc, ◌+◌, true, false, List, [], ◌∷◌, eqb, if◌then◌else◌, Option, Some, None}
use Rattle.model.specs.Judging.{Verdict, agrees, wrong_line}

unfoldable pub common : List ℕ → List ℕ → ℕ
common [] ys = 0
common (x ∷ xs) [] = 0
common (x ∷ xs) (y ∷ ys) = elim (eqb x y) [ true ↦ suc (common xs ys) | false ↦ 0 ]

-- 1 for a byte that ends a line
unfoldable pub end_at : ℕ → ℕ
end_at b = if eqb b 10 then 1 else 0

unfoldable pub line_ends : List ℕ → ℕ
line_ends [] = 0
line_ends (b ∷ bs) = end_at b + line_ends bs

abbrev pub as_comparison : Option ℕ → Verdict
as_comparison None = agrees
as_comparison (Some n) = wrong_line n
