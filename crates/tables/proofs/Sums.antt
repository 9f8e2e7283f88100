-- Where a sum does not reach the largest number, it is the sum.
use mathlib.Core.Path.{◌≡◌}
use Prim.Native.Nat.{ℕ, ◌+◌, ◌≤◌, ◌<◌}
use native.Mathlib.Omega.{arith}
use Rattle.tables.specs.Steps.{most16, most32, more16, sum32}

-- one more in 16 bits, and a sum in 32, where they fit
pub more16_is : (n : ℕ) → n < most16 → more16 n ≡ n + 1
unfolding more16
more16_is n h = omega arith

pub sum32_is : (m n : ℕ) → m + n ≤ most32 → sum32 m n ≡ m + n
unfolding sum32
sum32_is m n h = omega arith
