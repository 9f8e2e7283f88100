-- Two walks in lockstep: where one ends, a step of both, and the loop.
use mathlib.Core.Path.{◌≡◌, refl, sym, ap, ◌∙◌}
use mathlib.Core.List.{List}
use Prim.Native.Nat.{ℕ, zero, suc, ◌+◌, ◌-◌, ◌<◌, ◌≤◌}
use native.Mathlib.Nat.{not-suc-le-zero, zero-add, add-zero, add_assoc}
use native.Mathlib.Omega.{arith}
use borrow.Author.Tests.{eq-eqb, ne_eqb}
use lib.ListN.{get_or}
use Rattle.tables.specs.Steps.{far_in, turn_in}
use Rattle.tables.specs.Walks.{Met, met, steps_ahead, lockstep_in}

-- no step was taken before
pub ahead_none : (m : Met) → m ≡ steps_ahead 0 m
unfolding steps_ahead
ahead_none m = rw zero-add

-- the loop ends where the walks do
pub loop_end : (v w k : ℕ) (m : Met) → m ≡ met v w 0 → met v w k ≡ steps_ahead k m
unfolding steps_ahead
loop_end v w k m e = rw (e, add-zero)

ahead_twice : (j k : ℕ) (m : Met) → steps_ahead j (steps_ahead k m) ≡ steps_ahead (j + k) m
unfolding steps_ahead
ahead_twice j k m = rw add_assoc

module _ (degrees sides ends : List ℕ) where
  -- the walks stop where no step is left, where the first is at its end, and where the second is
  pub lockstep_none : (n d v c w : ℕ) → n ≤ 0 → lockstep_in degrees sides ends n d v c w ≡ met v w 0
  unfolding lockstep_in
  lockstep_none zero d v c w l = refl
  lockstep_none (suc n) d v c w l = absurd (not-suc-le-zero l)

  pub lockstep_first : (n d v c w : ℕ) → (get_or degrees v 0 ≡ 2 → ⊥) → lockstep_in degrees sides ends n d v c w ≡ met v w 0
  unfolding lockstep_in
  lockstep_first zero d v c w h = refl
  lockstep_first (suc n) d v c w h = rw (ne_eqb _ _ h)

  pub lockstep_second : (n d v c w : ℕ) → get_or degrees v 0 ≡ 2 → (get_or degrees w 0 ≡ 2 → ⊥)
      → lockstep_in degrees sides ends n d v c w ≡ met v w 0
  unfolding lockstep_in
  lockstep_second zero d v c w g h = refl
  lockstep_second (suc n) d v c w g h = rw (eq-eqb _ _ g, ne_eqb _ _ h)

  -- a step of both
  pub lockstep_on : (n d v c w d' v' c' w' : ℕ) → get_or degrees v 0 ≡ 2 → get_or degrees w 0 ≡ 2
      → turn_in sides d v ≡ d' → far_in ends d' v ≡ v' → turn_in sides c w ≡ c' → far_in ends c' w ≡ w'
      → lockstep_in degrees sides ends (suc n) d v c w ≡ steps_ahead 1 (lockstep_in degrees sides ends n d' v' c' w')
  unfolding lockstep_in
  lockstep_on n d v c w d' v' c' w' g h e f i j = rw (eq-eqb _ _ g, eq-eqb _ _ h, e, f, i, j)

  -- step i of the loop
  pub loop_step : (n i d v c w d' v' c' w' : ℕ) → i < n → get_or degrees v 0 ≡ 2 → get_or degrees w 0 ≡ 2
      → d' ≡ turn_in sides d v → v' ≡ far_in ends d' v → c' ≡ turn_in sides c w → w' ≡ far_in ends c' w
      → steps_ahead i (lockstep_in degrees sides ends (n - i) d v c w)
      ≡ steps_ahead (i + 1) (lockstep_in degrees sides ends (n - (i + 1)) d' v' c' w')
  loop_step n i d v c w d' v' c' w' l g h e f j k =
      let next : n - i ≡ suc (n - (i + 1)) = omega (arith, l) in
      rw next (ap (steps_ahead i) (lockstep_on (n - (i + 1)) d v c w d' v' c' w' g h (sym e) (sym f) (sym j) (sym k)) ∙ ahead_twice i 1 _)
