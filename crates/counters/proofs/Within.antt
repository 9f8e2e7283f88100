-- The ways out of a test of bounds, and what its answer tells; and the three of a volume.
use mathlib.Core.Path.{◌≡◌, refl, sym}
use Prim.Native.Nat.{ℕ, ◌≤◌, ◌<◌}
use native.Mathlib.Omega.{arith}
use mathlib.Core.Bool.{Bool, true, false, ◌&&◌}
use mathlib.Core.Option.{none, some, some-injective, some-ne-none}
use lib.Dec.{leb}
use borrow.Author.Tests.{eq-eqb, ne_eqb, le-leb, lt-leb, leb-false, lt-ltb, le-ltb}
use Rattle.model.specs.Basics.{max_vertices, max_volume}
use Rattle.counters.specs.Numbers.{within, among_landed, is_landed, known, unknown, out_of_range, volume_of}

-- a number within its bounds is told; below or above there is none
pub within_yes : (low high n : ℕ) → low ≤ n → n ≤ high → some n ≡ within low high n
unfolding within
within_yes low high n l h = rw (le-leb low n l, le-leb n high h)

pub within_below : (low high n : ℕ) → n < low → none ≡ within low high n
unfolding within
within_below low high n h = rw (lt-leb low n h)

pub within_above : (low high n : ℕ) → low ≤ n → high < n → none ≡ within low high n
unfolding within
within_above low high n l h = rw (le-leb low n l, lt-leb n high h)

module _ (count n : ℕ) where
  -- a number above all vertices is not landed; any other is if it is below the count
  pub landed_above : max_vertices ≤ n → none ≡ among_landed count n
  unfolding among_landed
  landed_above h = rw (le-ltb n max_vertices h)

  module _ (h : n < max_vertices) where
    pub landed_yes : n < count → some n ≡ among_landed count n
    unfolding among_landed
    landed_yes g = rw (lt-ltb n max_vertices h, lt-ltb n count g)

    pub landed_no : count ≤ n → none ≡ among_landed count n
    unfolding among_landed
    landed_no g = rw (lt-ltb n max_vertices h, le-ltb n count g)

-- what is told is the number; where nothing is, it is above
pub within_is : (low high n v : ℕ) → some v ≡ within low high n → v ≡ n
unfolding within
within_is low high n v e = go (leb low n && leb n high) refl
  where
    go : (b : Bool) → (leb low n && leb n high) ≡ b → v ≡ n
    go true q = some-injective v n (rw q at e)
    go false q = absurd (some-ne-none v (rw q at e))

pub within_none : (high n : ℕ) → none ≡ within 0 high n → high < n
unfolding within
within_none high n e = go (leb n high) refl
  where
    go : (b : Bool) → leb n high ≡ b → high < n
    go true q = absurd (some-ne-none n (sym (rw (le-leb 0 n (omega arith), q) at e)))
    go false q = leb-false n high q

-- the same of a landed vertex
pub landed_is : (count n v : ℕ) → some v ≡ among_landed count n → (is_landed count n ≡ true) × (v ≡ n)
unfolding among_landed
landed_is count n v e = go (is_landed count n) refl
  where
    go : (b : Bool) → is_landed count n ≡ b → (is_landed count n ≡ true) × (v ≡ n)
    go true q = (q, some-injective v n (rw q at e))
    go false q = absurd (some-ne-none v (rw q at e))

pub landed_none : (count n : ℕ) → none ≡ among_landed count n → is_landed count n ≡ false
unfolding among_landed
landed_none count n e = go (is_landed count n) refl
  where
    go : (b : Bool) → is_landed count n ≡ b → is_landed count n ≡ false
    go true q = absurd (some-ne-none n (sym (rw q at e)))
    go false q = q

-- ---- a volume

-- 0 is unknown, up to the greatest it is known, above it is out of range
pub volume_unknown : (n : ℕ) → n < 1 → unknown ≡ volume_of n
unfolding volume_of
volume_unknown n h = rw (eq-eqb n 0 (omega arith))

pub volume_known : (n : ℕ) → 1 ≤ n → n ≤ max_volume → known n ≡ volume_of n
unfolding volume_of
volume_known n l h = rw (ne_eqb n 0 (λ e. omega arith), le-leb n max_volume h)

pub volume_above : (n : ℕ) → max_volume < n → out_of_range ≡ volume_of n
unfolding volume_of
volume_above n h = rw (ne_eqb n 0 (λ e. omega arith), lt-leb n max_volume h)
