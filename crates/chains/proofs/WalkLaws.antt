-- A walk that adds up: the two ways in which the loop ends, and a turn of it. k vertices and a length l were before.
use mathlib.Core.Path.{◌≡◌, refl}
use mathlib.Core.Bool.{Bool, true, false, not}
use mathlib.Core.List.{List}
use Prim.Native.Nat.{ℕ, zero, suc, ◌+◌, ◌-◌, ◌<◌, ◌≤◌, min}
use native.Mathlib.Nat.{not-suc-le-zero, zero-add, add-zero}
use native.Mathlib.Omega.{arith}
use borrow.Author.Tests.{eq-eqb, ne_eqb}
use lib.ListN.{get_or}
use lib.Dec.{eqb}
use Rattle.tables.specs.Steps.{far_in, turn_in, sum32}
use Rattle.chains.specs.Chains.{WalkEnd, goes_on_in, walk_end, walk_in, walk_ahead}

-- a sum that stops at 32 bits fits them
pub sum32_most : (l m : ℕ) → sum32 l m ≤ 4294967295
unfolding sum32
sum32_most l m = omega arith

sum32_assoc : (l m n : ℕ) → sum32 l (sum32 m n) ≡ sum32 (sum32 l m) n
unfolding sum32
sum32_assoc l m n = omega arith

sum32_zero : (l : ℕ) → l ≤ 4294967295 → sum32 l 0 ≡ l
unfolding sum32
sum32_zero l h = omega arith

zero_sum32 : (l : ℕ) → l ≤ 4294967295 → sum32 0 l ≡ l
unfolding sum32
zero_sum32 l h = omega arith

-- a walker does not go on over a singular vertex; over a regular one unless it is home
pub goes_singular : (ds : List ℕ) (home v : ℕ) → (get_or ds v 0 ≡ 2 → ⊥) → false ≡ goes_on_in ds home v
unfolding goes_on_in
goes_singular ds home v h = rw (ne_eqb _ _ h)

pub goes_regular : (ds : List ℕ) (home v : ℕ) → get_or ds v 0 ≡ 2 → not (eqb v home) ≡ goes_on_in ds home v
unfolding goes_on_in
goes_regular ds home v h = rw (eq-eqb _ _ h)

module _ (ds ss es ls : List ℕ) (home : ℕ) where
  -- the walk at its end, and a step on
  pub walk_in_stop : (n d v : ℕ) → goes_on_in ds home v ≡ false → walk_in ds ss es ls home n d v ≡ walk_end v 0 0 home
  unfolding walk_in
  walk_in_stop zero d v h = refl
  walk_in_stop (suc n) d v h = rw h

  pub walk_in_on : (n d v c w : ℕ) → goes_on_in ds home v ≡ true → turn_in ss d v ≡ c → far_in es c v ≡ w
      → walk_in ds ss es ls home (suc n) d v ≡ walk_ahead 1 (get_or ls c 0) v (walk_in ds ss es ls home n c w)
  unfolding walk_in
  walk_in_on n d v c w h i j = rw (h, i, j)

  walk_most : (n d v : ℕ) → (walk_in ds ss es ls home n d v).length ≤ 4294967295
  unfolding walk_in walk_ahead
  walk_most zero d v = omega arith
  walk_most (suc n) d v = go (goes_on_in ds home v) refl
    where
      go : (x : Bool) → goes_on_in ds home v ≡ x → (walk_in ds ss es ls home (suc n) d v).length ≤ 4294967295
      go true e = rw e (sum32_most _ _)
      go false e = rw e (omega arith)

  -- no vertex above its home is the lowest
  walk_low : (n d v : ℕ) → (walk_in ds ss es ls home n d v).lowest ≤ home
  unfolding walk_in walk_ahead
  walk_low zero d v = omega arith
  walk_low (suc n) d v = go (goes_on_in ds home v) refl (walk_low n (turn_in ss d v) (far_in es (turn_in ss d v) v))
    where
      go : (x : Bool) → goes_on_in ds home v ≡ x → (walk_in ds ss es ls home n (turn_in ss d v) (far_in es (turn_in ss d v) v)).lowest ≤ home
          → (walk_in ds ss es ls home (suc n) d v).lowest ≤ home
      go true e ih = rw e (omega (arith, ih))
      go false e ih = rw e (omega arith)

  -- nothing before: the walk itself
  pub walk_whole : (n d v : ℕ) → walk_ahead 0 0 home (walk_in ds ss es ls home n d v) ≡ walk_in ds ss es ls home n d v
  unfolding walk_ahead
  walk_whole n d v =
      let m : min home (walk_in ds ss es ls home n d v).lowest ≡ (walk_in ds ss es ls home n d v).lowest = omega (arith, walk_low n d v) in
      rw (zero-add, zero_sum32 _ (walk_most n d v), m)

  -- k vertices, a length l and a lowest x before
  module _ (k l x : ℕ) (m : l ≤ 4294967295) (low : x ≤ home) where
    stopped : (v : ℕ) → walk_end v k l x ≡ walk_ahead k l x (walk_end v 0 0 home)
    unfolding walk_ahead
    stopped v =
        let i : min x home ≡ x = omega arith in
        rw (add-zero, sum32_zero l m, i)

    -- no step is left, or the walker is at its end: what was before
    pub walk_none : (n d v : ℕ) → n ≤ 0 → walk_end v k l x ≡ walk_ahead k l x (walk_in ds ss es ls home n d v)
    unfolding walk_in
    walk_none zero d v h = stopped v
    walk_none (suc n) d v h = absurd (not-suc-le-zero h)

    pub walk_stop : (n d v : ℕ) → goes_on_in ds home v ≡ false → walk_end v k l x ≡ walk_ahead k l x (walk_in ds ss es ls home n d v)
    walk_stop n d v h = rw (walk_in_stop n d v h) (stopped v)

  -- turn i of the loop
  pub walk_step : (n i d v c w k l x y z m : ℕ) → i < n → goes_on_in ds home v ≡ true → z ≡ min v x → c ≡ turn_in ss d v → w ≡ far_in es c v
      → y ≡ get_or ls c 0 → m ≡ sum32 l y
      → walk_ahead k l x (walk_in ds ss es ls home (n - i) d v) ≡ walk_ahead (k + 1) m z (walk_in ds ss es ls home (n - (i + 1)) c w)
  unfolding walk_in walk_ahead
  walk_step n i d v c w k l x y z m h g q a b e f =
      let next : n - i ≡ suc (n - (i + 1)) = omega (arith, h) in
      let r : WalkEnd = walk_in ds ss es ls home (n - (i + 1)) c w in
      let p : k + (1 + r.inner) ≡ k + 1 + r.inner = omega arith in
      let s : min x (min v r.lowest) ≡ min z r.lowest = omega arith in
      rw (next, g, ← a, ← b, ← e, f) (λ j. walk_end r.at (p j) (sum32_assoc l y r.length j) (s j))
