-- Vertices counted by their distances.
use mathlib.Core.Path.{◌≡◌}
use Prim.Native.Nat.{ℕ, zero, suc, ◌+◌, ◌≤◌, ◌<◌}
use native.Mathlib.Nat.{not-suc-le-zero}
use native.Mathlib.Decide.{ℕ_discrete, dec_lt}
use native.Mathlib.Omega.{arith}
use mathlib.Core.Bool.{Bool, true, false}
use mathlib.Core.List.{List}
use lib.ListN.{get_or}
use lib.Dec.{ltb}
use borrow.Author.Tests.{lt-ltb, le-ltb}

-- 1 for a test that holds
abbrev one : Bool → ℕ
one true = 1
one false = 0

one_lt : (y x : ℕ) → y < x → one (ltb y x) ≡ 1
one_lt y x l = rw (lt-ltb y x l)

one_ge : (y x : ℕ) → x ≤ y → one (ltb y x) ≡ 0
one_ge y x l = rw (le-ltb y x l)

one_le : (b : Bool) → one b ≤ 1
one_le true = omega arith
one_le false = omega arith

one_mono : (d x y : ℕ) → x ≤ y → one (ltb d x) ≤ one (ltb d y)
one_mono d x y h = go (dec_lt d x)
  where
    go : Dec (d < x) → one (ltb d x) ≤ one (ltb d y)
    go (yes l) = omega (arith, one_lt d x l, one_lt d y (omega arith))
    go (no l) = omega (arith, one_ge d x (omega arith))

-- how many of the first n vertices have a distance below x
unfoldable pub belows : List ℕ → ℕ → ℕ → ℕ
belows distances zero x = 0
belows distances (suc n) x = belows distances n x + one (ltb (get_or distances n 0) x)

-- at most all vertices have a distance below x
pub belows_le : (distances : List ℕ) (n x : ℕ) → belows distances n x ≤ n
unfolding belows
belows_le distances zero x = omega arith
belows_le distances (suc n) x = omega (arith, belows_le distances n x, one_le (ltb (get_or distances n 0) x))

belows_mono : (distances : List ℕ) (n x y : ℕ) → x ≤ y → belows distances n x ≤ belows distances n y
unfolding belows
belows_mono distances zero x y h = omega arith
belows_mono distances (suc n) x y h = omega (arith, belows_mono distances n x y h, one_mono (get_or distances n 0) x y h)

-- a vertex whose distance is from x on and below y
pub belows_more : (distances : List ℕ) (n x y u : ℕ) → u < n → x ≤ get_or distances u 0 → get_or distances u 0 < y
    → suc (belows distances n x) ≤ belows distances n y
unfolding belows
belows_more distances zero x y u l a b = absurd (not-suc-le-zero l)
belows_more distances (suc n) x y u l a b = go (ℕ_discrete u n) (λ k. belows_more distances n x y u k a b)
  where
    go : Dec (u ≡ n) → (u < n → suc (belows distances n x) ≤ belows distances n y)
        → suc (belows distances n x + one (ltb (get_or distances n 0) x)) ≤ belows distances n y + one (ltb (get_or distances n 0) y)
    go (yes q) i =
        let a' : x ≤ get_or distances n 0 = rw q at a in
        let b' : get_or distances n 0 < y = rw q at b in
        omega (arith, one_ge (get_or distances n 0) x a', one_lt (get_or distances n 0) y b', belows_mono distances n x y (omega arith))
    go (no q) i =
        let k : u < n = omega arith in
        omega (arith, i k, one_mono (get_or distances n 0) x y (omega arith))
