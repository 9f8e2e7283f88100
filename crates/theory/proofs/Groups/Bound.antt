-- The bound of the relabellings, from the groups.
use mathlib.Core.Path.{◌≡◌, ap}
use Prim.Native.Nat.{ℕ, ◌*◌, ◌≤◌, ◌<◌}
use native.Mathlib.Omega.{arith}
use native.Mathlib.Nat.{mul-le-mul_left}
use native.Mathlib.Decide.{dec_lt}
use mathlib.Core.List.{List}
use lib.ListN.{length}
use Rattle.model.specs.Basics.{floor_log}
use Rattle.model.specs.Graph.{Edge}
use Rattle.model.proofs.Basics.FloorLog.{floor_log_mono}
use Rattle.theory.proofs.Groups.Shape.{Shape, size, Courses, size_most, sizes_sum}
use Rattle.model.proofs.Basics.Total.{total, total_mul, total_le}

-- the relabellings of n edges are at most n log n
pub bound : (es : List Edge) (relabellings : ℕ) (h : Shape) → Courses es relabellings h → relabellings ≤ length es * floor_log (length es)
bound es relabellings h w =
    let n = length es in
    let le : total n h.spent ≤ total n (λ g. size h n g * floor_log n) = total_le n h.spent (λ g. size h n g * floor_log n) (λ g l. each g l (dec_lt 0 (size h n g))) in
    omega (arith, le, w.sums n (omega arith), total_mul n (λ g. size h n g) (floor_log n), ap (λ (s : ℕ). s * floor_log n) (sizes_sum h n w.below))
  where
    each : (g : ℕ) → g < length es → Dec (0 < size h (length es) g) → h.spent g ≤ size h (length es) g * floor_log (length es)
    each g l (yes s) = omega (arith, w.cost g, mul-le-mul_left (size h (length es) g) (floor_log_mono (size h (length es) g) (length es) s (size_most h (length es) g)))
    each g l (no s) = let z : size h (length es) g ≡ 0 = omega arith in let c : h.spent g ≤ 0 * floor_log 0 = rw z at (w.cost g) in omega (arith, c)
