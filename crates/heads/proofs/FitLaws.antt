-- The sizes of eight houses' tables, one after the other.
use mathlib.Core.Path.{◌≡◌}
use Prim.Native.Nat.{ℕ}
use mathlib.Core.Bool.{true, false}
use mathlib.Core.List.{List, [], ◌∷◌}
use lib.ListN.{length}
use lib.Dec.{eqb}
use borrow.Author.Tests.{eq-eqb}
use Rattle.model.specs.Tables.{Tables, eq_list}
use Rattle.nursery.specs.Licence.{houses}
use Rattle.heads.specs.Others.{eight_fit, tables_fit}

-- a table that does not fit decides, and the shares if all tables fit
pub fit_none : (t : Tables) (shares : List ℕ) → false ≡ tables_fit t → false ≡ eight_fit t shares
unfolding eight_fit
fit_none t shares h = rw (← h)

pub fit_last : (t : Tables) (shares : List ℕ) → true ≡ tables_fit t → eqb (length shares) houses ≡ eight_fit t shares
unfolding eight_fit
fit_last t shares h = rw (← h)

-- the last pair of sizes, if it is equal
pub list_end : (x y : ℕ) → x ≡ y → true ≡ eq_list (x ∷ []) (y ∷ [])
unfolding eq_list
list_end x y e = rw (eq-eqb x y e, eq_list)
