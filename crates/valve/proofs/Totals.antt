-- The sum of a window's records: its oldest, its bound, and what a stated sum becomes.
use mathlib.Core.Path.{◌≡◌, refl, ap, ◌∙◌}
use Prim.Native.Nat.{ℕ, zero, suc, ◌+◌, ◌*◌, ◌≤◌, ◌<◌}
use native.Mathlib.Omega.{arith}
use mathlib.Core.Bool.{true}
use mathlib.Core.List.{List, [], ◌∷◌}
use lib.ListN.{length, get_or}
use lib.Dec.{leb}
use borrow.Author.Tests.{leb-true}
use Rattle.model.proofs.Basics.Booleans.{and_true}
use Rattle.valve.specs.Numbers.{slots, max_amount}
use Rattle.valve.specs.Window.{Record, total, all_within, before, newest}
use Rattle.valve.proofs.Ring.{back_by, back_round}

-- the sum by its first record
pub total_cons : (r : Record) (rs : List Record) → total (r ∷ rs) ≡ r.amount + total rs
unfolding total
total_cons r rs = refl

-- no more than 1,000,000 ml a record
pub total_most : (rs : List Record) → all_within rs ≡ true → total rs ≤ max_amount * length rs
unfolding total all_within
total_most [] e = omega arith
total_most (r ∷ rs) e =
    let b = and_true (leb r.amount max_amount) (all_within rs) e in
    omega (arith, leb-true r.amount max_amount b.0, total_most rs b.1)

module _ (recipes amounts : List ℕ) where
  -- the oldest of n + 1 records
  pub total_oldest : (n i : ℕ) → total (newest recipes amounts (suc n) i) ≡ total (newest recipes amounts n i) + get_or amounts (back_by (suc n) i) 0
  unfolding newest total back_by
  total_oldest zero i = omega arith
  total_oldest (suc n) i = omega (arith, total_oldest n (before i))

  -- it stands in the slot that takes the next record
  pub total_next : (i : ℕ) → i < slots → total (newest recipes amounts (suc 1439) i) ≡ total (newest recipes amounts 1439 i) + get_or amounts i 0
  total_next i h = total_oldest 1439 i ∙ ap (λ (j : ℕ). total (newest recipes amounts 1439 i) + get_or amounts j 0) (back_round i h)

  -- if all are within bounds, so are all but the oldest
  pub within_shorter : (n i : ℕ) → all_within (newest recipes amounts (suc n) i) ≡ true → all_within (newest recipes amounts n i) ≡ true
  unfolding newest all_within
  within_shorter zero i e = refl
  within_shorter (suc n) i e =
      let b = and_true (leb (get_or amounts (before i) 0) max_amount) (all_within (newest recipes amounts (suc n) (before i))) e in
      rw b.0 (within_shorter n (before i) b.1)
