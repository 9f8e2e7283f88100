-- The sizes of tables: how a comparison of them comes out, and that zeros of the right sizes are the cleared tables.
use mathlib.Core.Path.{◌≡◌, refl, ap}
use mathlib.Core.Logic.{◌≢◌}
use Prim.Native.Nat.{ℕ}
use mathlib.Core.Bool.{Bool, true, false}
use mathlib.Core.List.{List, [], ◌∷◌}
use lib.ListN.{get_or, replicate}
use lib.Dec.{eqb}
use borrow.Author.Tests.{eq-eqb, ne_eqb}
use Rattle.model.specs.Tables.{Tables, cleared, eq_list, fits, right_sizes, sizes}
use Rattle.theory.proofs.Registers.Equality.{eq_list_true, tables_parts}
use Rattle.tables.specs.Steps.{zeroed}

-- ---- a comparison, number by number

-- one pair of numbers differs: so do the lists; they are equal: the rest decides
pub list_differs : (x y : ℕ) (xs ys : List ℕ) → x ≢ y → false ≡ eq_list (x ∷ xs) (y ∷ ys)
unfolding eq_list
list_differs x y xs ys h = rw (ne_eqb x y h, eq_list)

pub list_on : (x y : ℕ) (xs ys : List ℕ) → x ≡ y → eq_list xs ys ≡ eq_list (x ∷ xs) (y ∷ ys)
unfolding eq_list
list_on x y xs ys e = rw (eq-eqb x y e, eq_list)

-- the last pair decides alone
pub list_last : (x y : ℕ) → eqb x y ≡ eq_list (x ∷ []) (y ∷ [])
unfolding eq_list
list_last x y = go (eqb x y)
  where
    go : (b : Bool) → b ≡ (elim b [ true ↦ true | false ↦ false ])
    go true = refl
    go false = refl

-- ---- clearing

-- zeros of the sizes that the tables have are the cleared tables
pub zeroed_cleared : (t : Tables) → fits t ≡ true → zeroed t ≡ cleared
unfolding fits sizes right_sizes zeroed cleared
zeroed_cleared t h =
    let s = eq_list_true (sizes t) right_sizes h in
    tables_parts (zeros 0 s) (zeros 1 s) (zeros 2 s) (zeros 3 s) (zeros 4 s) (zeros 5 s)
  where
    zeros : (i : ℕ) → sizes t ≡ right_sizes → replicate {A = ℕ} (get_or (sizes t) i 0) 0 ≡ replicate {A = ℕ} (get_or right_sizes i 0) 0
    zeros i s = ap (λ (l : List ℕ). replicate {A = ℕ} (get_or l i 0) 0) s
