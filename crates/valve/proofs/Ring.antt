-- The ring of slots: walking back from a slot, and a store in the slot that the walk would come to last.
use mathlib.Core.Path.{◌≡◌, refl, ap, ◌∙◌}
use mathlib.Core.Logic.{◌⊎◌, inl, inr}
use Prim.Native.Nat.{ℕ, zero, suc, ◌+◌, ◌-◌, ◌≤◌, ◌<◌}
use native.Mathlib.Omega.{arith}
use native.Mathlib.Decide.{ℕ_discrete, dec_lt}
use native.Mathlib.Nat.{zero-add, suc-add}
use mathlib.Core.List.{List, ◌∷◌}
use lib.ListN.{length, get_or, set, take}
use lib.Seq.{get_or-set_same, get_or-set_other}
use borrow.Author.Tests.{eq-eqb, ne_eqb, lt-ltb, le-ltb}
use Rattle.valve.specs.Numbers.{slots}
use Rattle.valve.specs.Window.{Record, record_of, before, after, newest}

-- ---- before and after

-- the slot before the first is the last, before any other the one before
pub before_first : (i : ℕ) → i ≡ 0 → before i ≡ 1439
unfolding before
before_first i h = rw (eq-eqb i 0 h)

pub before_other : (i : ℕ) → (i ≡ 0 → ⊥) → before i ≡ i - 1
unfolding before
before_other i h = rw (ne_eqb i 0 h)

-- the slot after the last is the first, after any other the next
pub after_inside : (i : ℕ) → i < 1439 → after i ≡ i + 1
unfolding after
after_inside i h = rw (lt-ltb i 1439 h)

pub after_last : (i : ℕ) → 1439 ≤ i → after i ≡ 0
unfolding after
after_last i h = rw (le-ltb i 1439 h)

pub before_below : (i : ℕ) → i < slots → before i < slots
before_below i h = go (ℕ_discrete i 0)
  where
    go : Dec (i ≡ 0) → before i < slots
    go (yes e) = omega (arith, before_first i e)
    go (no e) = omega (arith, before_other i e)

-- the slot after any is a slot
pub after_below : (i : ℕ) → after i < slots
after_below i = go (dec_lt i 1439)
  where
    go : Dec (i < 1439) → after i < slots
    go (yes h) = omega (arith, after_inside i h)
    go (no h) = omega (arith, after_last i (omega arith))

pub before_after : (i : ℕ) → i < slots → before (after i) ≡ i
before_after i h = go (dec_lt i 1439)
  where
    go : Dec (i < 1439) → before (after i) ≡ i
    go (yes l) = let n : after i ≡ 0 → ⊥ = λ q. omega (arith, after_inside i l) in omega (arith, before_other (after i) n, after_inside i l)
    go (no l) = omega (arith, before_first (after i) (after_last i (omega arith)))

-- n slots back
unfoldable pub back_by : ℕ → ℕ → ℕ
back_by zero i = i
back_by (suc n) i = back_by n (before i)

-- n slots back: where there are so many before it, n and m one after the other, one and then n
pub back_some : (n i : ℕ) → n ≤ i → back_by n i ≡ i - n
unfolding back_by
back_some zero i h = omega arith
back_some (suc n) i h =
    let e : before i ≡ i - 1 = before_other i (λ q. omega arith) in
    back_some n (before i) (omega arith) ∙ (omega arith)

pub back_add : (n m i : ℕ) → back_by (n + m) i ≡ back_by m (back_by n i)
unfolding back_by
back_add zero m i = rw (zero-add m)
back_add (suc n) m i = rw (suc-add n m) (back_add n m (before i))

pub back_suc : (n i : ℕ) → back_by (suc n) i ≡ back_by n (before i)
unfolding back_by
back_suc n i = refl

-- all the way round
pub back_round : (i : ℕ) → i < slots → back_by (suc 1439) i ≡ i
back_round i h =
    let a : suc 1439 ≡ i + suc (1439 - i) = omega arith in
    let b : back_by i i ≡ 0 = back_some i i (omega arith) ∙ (omega arith) in
    let c : back_by (suc (1439 - i)) 0 ≡ i = back_zero (1439 - i) (omega arith) ∙ (omega arith) in
    ap (λ (n : ℕ). back_by n i) a ∙ back_add i (suc (1439 - i)) i ∙ ap (λ (j : ℕ). back_by (suc (1439 - i)) j) b ∙ c
  where
    back_zero : (n : ℕ) → n ≤ 1439 → back_by (suc n) 0 ≡ 1439 - n
    back_zero n l = back_suc n 0 ∙ ap (λ (j : ℕ). back_by n j) (before_first 0 refl) ∙ back_some n 1439 l

-- ---- the records back from a slot

newest_suc : (recipes amounts : List ℕ) (n i : ℕ)
    → newest recipes amounts (suc n) i ≡ record_of (get_or recipes (before i) 0) (get_or amounts (before i) 0) ∷ newest recipes amounts n (before i)
unfolding newest
newest_suc recipes amounts n i = refl

module _ (recipes amounts : List ℕ) where
  -- there are n of them
  pub newest_length : (n i : ℕ) → length (newest recipes amounts n i) ≡ n
  unfolding newest
  newest_length zero i = refl
  newest_length (suc n) i = ap suc (newest_length n (before i))

  -- without the oldest they are one fewer
  pub newest_take : (n i : ℕ) → take n (newest recipes amounts (suc n) i) ≡ newest recipes amounts n i
  unfolding newest
  newest_take zero i = refl
  newest_take (suc n) i =
      ap (λ (rs : List Record). record_of (get_or recipes (before i) 0) (get_or amounts (before i) 0) ∷ rs) (newest_take n (before i))

  -- the n slots before slot i do not come to slot p
  abbrev Apart : ℕ → ℕ → ℕ → Type 0
  Apart p n i = ((i ≤ p) × (n + p ≤ i + 1439)) ⊎ ((p < i) × (n + p + 1 ≤ i))

  apart_step : (p n i : ℕ) → p < slots → Apart p (suc n) i → Dec (i ≡ 0) → (before i ≡ p → ⊥) × Apart p n (before i)
  apart_step p n i h (inl a) (yes z) =
      let e : before i ≡ 1439 = before_first i z in
      (λ q. omega (arith, a.0, a.1), inr (omega (arith, a.0, a.1), omega (arith, a.0, a.1)))
  apart_step p n i h (inr a) (yes z) = absurd (omega (arith, a.0))
  apart_step p n i h (inl a) (no z) =
      let e : before i ≡ i - 1 = before_other i z in
      (λ q. omega (arith, a.0, a.1), inl (omega (arith, a.0, a.1), omega (arith, a.0, a.1)))
  apart_step p n i h (inr a) (no z) =
      let e : before i ≡ i - 1 = before_other i z in
      (λ q. omega (arith, a.0, a.1), inr (omega (arith, a.0, a.1), omega (arith, a.0, a.1)))

  newest_apart : (p x y n i : ℕ) → p < slots → Apart p n i → newest (set recipes p x) (set amounts p y) n i ≡ newest recipes amounts n i
  unfolding newest
  newest_apart p x y zero i h a = refl
  newest_apart p x y (suc n) i h a =
      let s = apart_step p n i h a (ℕ_discrete i 0) in
      rw (get_or-set_other recipes p (before i) x 0 s.0, get_or-set_other amounts p (before i) y 0 s.0, newest_apart p x y n (before i) h s.1)

  -- a record in the slot i, which is the newest then; the oldest stood there
  pub newest_put : (i : ℕ) (r : Record) → length recipes ≡ slots → length amounts ≡ slots → i < slots
      → newest (set recipes i r.recipe) (set amounts i r.amount) (suc 1439) (after i) ≡ r ∷ newest recipes amounts 1439 i
  newest_put i r l m h =
      let b : before (after i) ≡ i = before_after i h in
      let x : get_or (set recipes i r.recipe) i 0 ≡ r.recipe = get_or-set_same recipes i r.recipe 0 (omega arith) in
      let y : get_or (set amounts i r.amount) i 0 ≡ r.amount = get_or-set_same amounts i r.amount 0 (omega arith) in
      let t = newest_apart i r.recipe r.amount 1439 i h (inl (omega arith, omega arith)) in
      newest_suc (set recipes i r.recipe) (set amounts i r.amount) 1439 (after i) ∙ rw (b, x, y, t)
