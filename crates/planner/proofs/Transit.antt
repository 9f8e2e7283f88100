-- A quotient rounded up.
use Rattle.std.specs.Int.{div_ceil}
use Rattle.std.proofs.lemmas.Grind.{div_ceil_times}
use mathlib.Core.Path.{◌≡◌, sym}
use Prim.Native.Nat.{ℕ, ◌+◌, ◌-◌, ◌*◌, ◌/◌, ◌≤◌}
use native.Mathlib.Omega.{arith}
use native.Mathlib.Nat.{div-eq_of_lt-le, div-mul-le_self, lt-div-mul-add, div-lt_iff_lt-mul}
use Rattle.planner.specs.Planning.{transit}

module _ (volume flow : ℕ) (v : 1 ≤ volume) (f : 1 ≤ flow) where
  transit_is : (volume - 1) / flow + 1 ≡ transit volume flow
  unfolding transit
  transit_is =
      sym (div-eq_of_lt-le flow (omega (arith, div-mul-le_self (volume - 1) flow)) (omega (arith, lt-div-mul-add {a = volume - 1} {b = flow} f)))

  -- a volume that is known takes some time
  pub transit_some : 1 ≤ transit volume flow
  transit_some = rw (← transit_is) (omega arith)

  -- so many minutes let the volume through ..
  pub transit_enough : volume ≤ transit volume flow * flow
  transit_enough = rw (← transit_is) (omega (arith, lt-div-mul-add {a = volume - 1} {b = flow} f))

  -- .. and fewer do not
  pub transit_least : (n : ℕ) → volume ≤ n * flow → transit volume flow ≤ n
  transit_least n h = rw (← transit_is) (omega (arith, (div-lt_iff_lt-mul {k = flow} {x = volume - 1} {y = n} f).1 (omega arith)))

  -- the library rounds up by the remainder
  pub ceil_is : div_ceil volume flow ≡ transit volume flow
  unfolding transit
  ceil_is = sym (div-eq_of_lt-le flow (omega (arith, (div_ceil_times volume flow f).1)) (omega (arith, (div_ceil_times volume flow f).0)))
