-- Two walkers on their way round: where one ends, where the first is back, and a step of both.
use mathlib.Core.Path.{◌≡◌, refl, sym}
use mathlib.Core.Bool.{Bool, false, ◌||◌}
use mathlib.Core.List.{List}
use Prim.Native.Nat.{ℕ, zero, suc, ◌+◌, ◌-◌, ◌<◌, ◌≤◌}
use native.Mathlib.Nat.{not-suc-le-zero}
use native.Mathlib.Omega.{arith}
use borrow.Author.Tests.{eq-eqb, ne_eqb}
use lib.Dec.{eqb}
use lib.ListN.{get_or}
use Rattle.tables.specs.Steps.{far_in, turn_in}
use Rattle.tables.specs.Rounds.{lower_in, back_in, round_in, ring_in}
use Rattle.tables.specs.declared.rings.Round.{Round}
use Rattle.tables.specs.declared.rings.Round.TheVariants.{NoRing}

module _ (degrees sides ends : List ℕ) (v w : ℕ) where
  -- no step is left, or one of the two comes to a singular vertex: no ring
  pub round_none : (n k : ℕ) (met : Bool) (d x c y : ℕ) → n ≤ 0 → NoRing ≡ round_in degrees sides ends v w n k met d x c y
  unfolding round_in
  round_none zero k met d x c y l = refl
  round_none (suc n) k met d x c y l = absurd (not-suc-le-zero l)

  pub round_first : (n k : ℕ) (met : Bool) (d x c y : ℕ) → (get_or degrees x 0 ≡ 2 → ⊥) → NoRing ≡ round_in degrees sides ends v w n k met d x c y
  unfolding round_in
  round_first zero k met d x c y h = refl
  round_first (suc n) k met d x c y h = rw (ne_eqb _ _ h)

  pub round_second : (n k : ℕ) (met : Bool) (d x c y : ℕ) → get_or degrees x 0 ≡ 2 → (get_or degrees y 0 ≡ 2 → ⊥)
      → NoRing ≡ round_in degrees sides ends v w n k met d x c y
  unfolding round_in
  round_second zero k met d x c y g h = refl
  round_second (suc n) k met d x c y g h = rw (eq-eqb _ _ g, ne_eqb _ _ h)

  -- the first is back: a ring, of so many others
  pub round_back : (n k : ℕ) (met : Bool) (d x c y : ℕ) → 0 < n → get_or degrees x 0 ≡ 2 → get_or degrees y 0 ≡ 2 → x ≡ v
      → back_in k met ≡ round_in degrees sides ends v w n k met d x c y
  unfolding round_in
  round_back zero k met d x c y l g h e = absurd (not-suc-le-zero l)
  round_back (suc n) k met d x c y l g h e = rw (eq-eqb _ _ g, eq-eqb _ _ h, eq-eqb _ _ e)

  -- a step of both
  pub round_on : (n k : ℕ) (met met' : Bool) (d x c y d' x' c' y' : ℕ) → get_or degrees x 0 ≡ 2 → get_or degrees y 0 ≡ 2
      → (x ≡ v → ⊥) → (met || eqb x w) ≡ met' → turn_in sides d x ≡ d' → far_in ends d' x ≡ x' → turn_in sides c y ≡ c' → far_in ends c' y ≡ y'
      → round_in degrees sides ends v w (suc n) k met d x c y ≡ round_in degrees sides ends v w n (k + 1) met' d' x' c' y'
  unfolding round_in
  round_on n k met met' d x c y d' x' c' y' g h o m e f i j = rw (eq-eqb _ _ g, eq-eqb _ _ h, ne_eqb _ _ o, m, e, f, i, j)

  -- step i of the loop
  pub round_step : (n i : ℕ) (met met' : Bool) (d x c y d' x' c' y' : ℕ) → i < n → get_or degrees x 0 ≡ 2 → get_or degrees y 0 ≡ 2
      → (x ≡ v → ⊥) → met' ≡ (met || eqb x w) → d' ≡ turn_in sides d x → x' ≡ far_in ends d' x → c' ≡ turn_in sides c y → y' ≡ far_in ends c' y
      → round_in degrees sides ends v w (n - i) i met d x c y ≡ round_in degrees sides ends v w (n - (i + 1)) (i + 1) met' d' x' c' y'
  round_step n i met met' d x c y d' x' c' y' l g h o m e f j k =
      let next : n - i ≡ suc (n - (i + 1)) = omega (arith, l) in
      rw next (round_on (n - (i + 1)) i met met' d x c y d' x' c' y' g h o (sym m) (sym e) (sym f) (sym j) (sym k))

-- the two set out along the two edges of the vertex
pub ring_law : (degrees sides ends : List ℕ) (v w n d x c y : ℕ) (r : Round) → (d ≡ lower_in sides v) × (x ≡ far_in ends d v)
    → (c ≡ turn_in sides d v) × (y ≡ far_in ends c v) → r ≡ round_in degrees sides ends v w n 0 false d x c y
    → r ≡ ring_in degrees sides ends v w n
unfolding ring_in
ring_law degrees sides ends v w n d x c y r h g i = rw (← h.0, ← h.1, ← g.0, ← g.1) i
