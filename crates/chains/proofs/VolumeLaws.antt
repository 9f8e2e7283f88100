-- The volume along a walk: two volumes together, the two ways in which the loop ends, and a turn of it.
use Rattle.std.specs.Prelude.{if◌then◌else◌}
use mathlib.Core.Path.{◌≡◌, refl, sym}
use mathlib.Core.Bool.{Bool, true, false, ◌||◌}
use mathlib.Core.List.{List}
use Prim.Native.Nat.{ℕ, zero, suc, ◌+◌, ◌-◌, ◌<◌, ◌≤◌}
use native.Mathlib.Nat.{not-suc-le-zero}
use native.Mathlib.Omega.{arith}
use borrow.Author.Tests.{ne_eqb}
use lib.ListN.{get_or}
use lib.Dec.{eqb}
use Rattle.tables.specs.Steps.{far_in, turn_in, sum32}
use Rattle.chains.specs.Chains.{goes_on_in, plus_volume32, walk_volume_in}

-- two volumes together: unknown if one of them is, else their sum
pub unknown_first : (v w : ℕ) → v ≡ 0 → v ≡ plus_volume32 v w
unfolding plus_volume32
unknown_first v w z = rw z

pub unknown_second : (v w x : ℕ) → x ≡ w → x ≡ 0 → x ≡ plus_volume32 v w
unfolding plus_volume32
unknown_second v w x e z = rw (← e) (go (eqb v 0))
  where
    go : (b : Bool) → x ≡ (if b || eqb x 0 then 0 else sum32 v x)
    go true = z
    go false = rw z

pub both_known : (v w x r : ℕ) → x ≡ w → (v ≡ 0 → ⊥) → (x ≡ 0 → ⊥) → r ≡ sum32 v x → r ≡ plus_volume32 v w
unfolding plus_volume32
both_known v w x r e m n s = rw (← e, ne_eqb v 0 m, ne_eqb x 0 n) s

module _ (ds ss es vs : List ℕ) (home : ℕ) where
  -- no step is left, or the walker is at its end: what is known so far
  pub volume_none : (n known d v : ℕ) → n ≤ 0 → known ≡ walk_volume_in ds ss es vs home n known d v
  unfolding walk_volume_in
  volume_none zero known d v h = refl
  volume_none (suc n) known d v h = absurd (not-suc-le-zero h)

  pub volume_stop : (n known d v : ℕ) → goes_on_in ds home v ≡ false → known ≡ walk_volume_in ds ss es vs home n known d v
  unfolding walk_volume_in
  volume_stop zero known d v h = refl
  volume_stop (suc n) known d v h = rw h

  -- a step on, and the same as a turn of the loop
  pub volume_on : (n known d v c w : ℕ) → goes_on_in ds home v ≡ true → turn_in ss d v ≡ c → far_in es c v ≡ w
      → walk_volume_in ds ss es vs home (suc n) known d v ≡ walk_volume_in ds ss es vs home n (plus_volume32 known (get_or vs c 0)) c w
  unfolding walk_volume_in
  volume_on n known d v c w h i j = rw (h, i, j)

  pub volume_step : (n i known more d v c w : ℕ) → i < n → goes_on_in ds home v ≡ true → c ≡ turn_in ss d v → w ≡ far_in es c v
      → more ≡ plus_volume32 known (get_or vs c 0)
      → walk_volume_in ds ss es vs home (n - i) known d v ≡ walk_volume_in ds ss es vs home (n - (i + 1)) more c w
  volume_step n i known more d v c w h g a b e =
      let next : n - i ≡ suc (n - (i + 1)) = omega (arith, h) in
      rw (next, e) (volume_on (n - (i + 1)) known d v c w g (sym a) (sym b))
