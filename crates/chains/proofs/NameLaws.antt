-- Marks along a walk and on a chain, and the names that a pass over the edges finds.
use mathlib.Core.Path.{◌≡◌, refl, sym}
use mathlib.Core.Bool.{Bool, true, false}
use mathlib.Core.List.{List, [], ◌∷◌}
use Prim.Native.Nat.{ℕ, zero, suc, ◌+◌, ◌*◌, ◌-◌, ◌<◌, ◌≤◌}
use native.Mathlib.Nat.{not-suc-le-zero, sub-zero}
use native.Mathlib.Numerals.{add-one}
use native.Mathlib.Omega.{arith}
use borrow.Author.Tests.{eq-eqb, ne_eqb, le-leb}
use lib.ListN.{length, get_or, set}
use lib.Dec.{eqb, leb}
use Rattle.tables.specs.Steps.{far_in, turn_in}
use Rattle.chains.specs.Chains.{goes_on_in, marked, mark_in, mark_chain_in, names_in, sweep_in}

module _ (ds ss es : List ℕ) (home : ℕ) where
  -- no step is left, or the walker is at its end: the marks so far
  pub mark_none : (n : ℕ) (ms : List ℕ) (d v : ℕ) → n ≤ 0 → marked ms v ≡ mark_in ds ss es home n ms d v
  unfolding mark_in
  mark_none zero ms d v h = refl
  mark_none (suc n) ms d v h = absurd (not-suc-le-zero h)

  pub mark_stop : (n : ℕ) (ms : List ℕ) (d v : ℕ) → goes_on_in ds home v ≡ false → marked ms v ≡ mark_in ds ss es home n ms d v
  unfolding mark_in
  mark_stop zero ms d v h = refl
  mark_stop (suc n) ms d v h = rw h

  -- a step on, and the same as a turn of the loop
  pub mark_on : (n : ℕ) (ms : List ℕ) (d v c w : ℕ) → goes_on_in ds home v ≡ true → turn_in ss d v ≡ c → far_in es c v ≡ w
      → mark_in ds ss es home (suc n) ms d v ≡ mark_in ds ss es home n (set ms c 1) c w
  unfolding mark_in
  mark_on n ms d v c w h i j = rw (h, i, j)

  pub mark_step : (n i : ℕ) (ms ns : List ℕ) (d v c w : ℕ) → i < n → goes_on_in ds home v ≡ true → c ≡ turn_in ss d v → w ≡ far_in es c v
      → ns ≡ set ms c 1 → mark_in ds ss es home (n - i) ms d v ≡ mark_in ds ss es home (n - (i + 1)) ns c w
  mark_step n i ms ns d v c w h g a b e =
      let next : n - i ≡ suc (n - (i + 1)) = omega (arith, h) in
      rw (next, e) (mark_on (n - (i + 1)) ms d v c w g (sym a) (sym b))

module _ (ds ss es : List ℕ) (n : ℕ) where
  module _ (ms : List ℕ) (e a b v : ℕ) (ns : List ℕ) (f : a ≡ get_or es (2 * e) 0) (s : b ≡ get_or es (2 * e + 1) 0) (h : marked ns v ≡ mark_in ds ss es a n ms e b) where
    -- in a ring one walk marks all
    pub chain_round : get_or ds v 0 ≡ 2 → ns ≡ mark_chain_in ds ss es n ms e
    unfolding mark_chain_in
    chain_round i = rw (← f, ← s, ← h, eq-eqb _ _ i)

    -- on a chain the second walk marks the rest
    pub chain_both : (get_or ds v 0 ≡ 2 → ⊥) → (os : List ℕ) (u : ℕ) → marked os u ≡ mark_in ds ss es v n ns e a → os ≡ mark_chain_in ds ss es n ms e
    unfolding mark_chain_in
    chain_both i os u j = rw (← f, ← s, ← h, ne_eqb _ _ i, ← j)

-- ---- a pass over all edges: the names from edge e on

module _ (ds ss es : List ℕ) (n : ℕ) where
  -- at the start all; an edge with a mark is none; one without a mark is one, and its chain is marked; at the end none
  pub sweep_start : (ms : List ℕ) → sweep_in ds ss es n (n - 0) ms 0 ≡ names_in ds ss es n ms
  unfolding names_in
  sweep_start ms = rw sub-zero refl

  pub sweep_past : (e : ℕ) (ms : List ℕ) → e < n → (get_or ms e 0 ≡ 0 → ⊥)
      → sweep_in ds ss es n (n - (e + 1)) ms (e + 1) ≡ sweep_in ds ss es n (n - e) ms e
  unfolding sweep_in
  sweep_past e ms h g =
      let next : n - e ≡ suc (n - suc e) = omega (arith, h) in
      rw (next, ne_eqb _ _ g, sweep_in, add-one) refl

  pub sweep_on : (e : ℕ) (ms ms' : List ℕ) → e < n → get_or ms e 0 ≡ 0 → ms' ≡ mark_chain_in ds ss es n ms e
      → e ∷ sweep_in ds ss es n (n - (e + 1)) ms' (e + 1) ≡ sweep_in ds ss es n (n - e) ms e
  unfolding sweep_in
  sweep_on e ms ms' h z m =
      let next : n - e ≡ suc (n - suc e) = omega (arith, h) in
      rw (next, eq-eqb _ _ z, sweep_in, add-one, m) refl

  pub sweep_end : (e : ℕ) (ms : List ℕ) → n ≤ e → [] ≡ sweep_in ds ss es n (n - e) ms e
  unfolding sweep_in
  sweep_end e ms h =
      let none : n - e ≡ 0 = omega (arith, h) in
      rw none refl

-- at most one name an edge
pub sweep_few : (ds ss es : List ℕ) (n k : ℕ) (ms : List ℕ) (d : ℕ) → length (sweep_in ds ss es n k ms d) ≤ k
unfolding sweep_in
sweep_few ds ss es n zero ms d = omega arith
sweep_few ds ss es n (suc k) ms d =
    go (eqb (get_or ms d 0) 0) refl (sweep_few ds ss es n k (mark_chain_in ds ss es n ms d) (suc d)) (sweep_few ds ss es n k ms (suc d))
  where
    go : (b : Bool) → eqb (get_or ms d 0) 0 ≡ b → length (sweep_in ds ss es n k (mark_chain_in ds ss es n ms d) (suc d)) ≤ k
        → length (sweep_in ds ss es n k ms (suc d)) ≤ k → length (sweep_in ds ss es n (suc k) ms d) ≤ suc k
    go true e i j = rw (e, sweep_in) (omega (arith, i))
    go false e i j = rw (e, sweep_in) (omega (arith, j))

pub names_few : (ds ss es : List ℕ) (n : ℕ) (ms : List ℕ) → length (names_in ds ss es n ms) ≤ n
unfolding names_in
names_few ds ss es n ms = sweep_few ds ss es n n ms 0

-- so there is room for all where there is room for so many
pub names_fit : (ds ss es : List ℕ) (n : ℕ) (ms : List ℕ) (rows : ℕ) → n ≤ rows → true ≡ leb (length (names_in ds ss es n ms)) rows
names_fit ds ss es n ms rows h = sym (le-leb (length (names_in ds ss es n ms)) rows (omega (arith, names_few ds ss es n ms)))
