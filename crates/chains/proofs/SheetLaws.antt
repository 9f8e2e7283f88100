-- One row; and rows written one behind the other, in any encoding that does so.
use mathlib.Core.Path.{◌≡◌, refl, ap}
use mathlib.Core.Bool.{Bool, true, false}
use mathlib.Core.List.{List, [], ◌∷◌, ◌++◌, map}
use Prim.Native.Nat.{ℕ, ◌+◌, ◌-◌, ◌*◌, min, max}
use native.Mathlib.Omega.{arith}
use borrow.Author.Tests.{eq-eqb, ne_eqb}
use lib.ListN.{length, get_or, length-map, length-append}
use lib.Dec.{eqb}
use Rattle.model.specs.Basics.{row_size}
use Rattle.model.specs.Queries.{concat}
use Rattle.tables.specs.Steps.{sum32}
use Rattle.text.specs.Pages.{Page, write}
use Rattle.text.proofs.PageLaws.{write_append}
use Rattle.chains.specs.Chains.{WalkEnd, names_in, walk_end, walk_in, walk_volume_in, row_in, rows_in, sheet_in, sweep_in}
use Rattle.chains.proofs.NameLaws.{sweep_start}

module _ (ds ss es ls vs : List ℕ) (n e a b v k l x own known more : ℕ) (f : a ≡ get_or es (2 * e) 0) (s : b ≡ get_or es (2 * e + 1) 0)
    (h : walk_end v k l x ≡ walk_in ds ss es ls a n e b) (o : own ≡ get_or ls e 0) (p : known ≡ get_or vs e 0)
    (z : more ≡ walk_volume_in ds ss es vs a n known e b) where
  -- in a ring one walk gives the row
  pub row_round : (r : List ℕ) → get_or ds v 0 ≡ 2 → r ≡ e ∷ x ∷ x ∷ (1 + k) ∷ sum32 own l ∷ more ∷ [] → r ≡ row_in ds ss es ls vs n e
  unfolding row_in
  row_round r i q = rw (← f, ← s, ← h, ← o, ← p, ← z, eq-eqb _ _ i) q

  -- on a chain both walks give it
  pub row_both : (r : List ℕ) (u j m y all : ℕ) → (get_or ds v 0 ≡ 2 → ⊥) → walk_end u j m y ≡ walk_in ds ss es ls v n e a
      → all ≡ walk_volume_in ds ss es vs v n more e a
      → r ≡ e ∷ min u v ∷ max u v ∷ (j + k) ∷ sum32 m (sum32 own l) ∷ all ∷ [] → r ≡ row_in ds ss es ls vs n e
  unfolding row_in
  row_both r u j m y all i w t q = rw (← f, ← s, ← h, ← o, ← p, ← z, ne_eqb _ _ i, ← w, ← t) q

-- the encoding of rows is that of the first and then that of the others
pub record RowByRow (one : List ℕ → List ℕ) (all : List (List ℕ) → List ℕ) : Type 0 where
  pub none : all [] ≡ []
  pub first : (row : List ℕ) (rows : List (List ℕ)) → all (row ∷ rows) ≡ one row ++ all rows

-- the numbers alone
pub numbers : RowByRow (λ row. row) concat
unfolding concat
numbers = record { none = refl; first = λ row rows. refl }

module _ (ds ss es ls vs : List ℕ) (n : ℕ) where
  -- A loop puts the rows of the names from an edge on: at the start those of all, for a name more its row and then the others, at the
  -- end none
  module _ (one : List ℕ → List ℕ) (all : List (List ℕ) → List ℕ) (by_Row : RowByRow one all) where
    pub put_start : (ms : List ℕ) (p : Page) → write (all (rows_in ds ss es ls vs n (sweep_in ds ss es n (n - 0) ms 0))) p ≡ write (all (sheet_in ds ss es ls vs n ms)) p
    unfolding sheet_in
    put_start ms p = ap (λ (cs : List ℕ). write (all (rows_in ds ss es ls vs n cs)) p) (sweep_start ds ss es n ms)

    pub put_on : (c : ℕ) (row later names : List ℕ) (p q : Page) → c ∷ later ≡ names → row ≡ row_in ds ss es ls vs n c → q ≡ write (one row) p
        → write (all (rows_in ds ss es ls vs n later)) q ≡ write (all (rows_in ds ss es ls vs n names)) p
    unfolding rows_in
    put_on c row later names p q e r w =
        let f : ℕ → List ℕ = row_in ds ss es ls vs n in
        rw (← e, by_Row.first (f c) (map f later), write_append (one (f c)) (all (map f later)) p, ← r, ← w) refl

    pub put_end : (names : List ℕ) (p : Page) → [] ≡ names → p ≡ write (all (rows_in ds ss es ls vs n names)) p
    unfolding rows_in write
    put_end names p e = rw (← e, by_Row.none) refl

  -- a row a name, of so many numbers
  rows_count : (cs : List ℕ) → length (rows_in ds ss es ls vs n cs) ≡ length cs
  unfolding rows_in
  rows_count cs = length-map cs (row_in ds ss es ls vs n)

  row_size_lem : (c : ℕ) → length (row_in ds ss es ls vs n c) ≡ row_size
  unfolding row_in
  row_size_lem c = go (walk_in ds ss es ls (get_or es (2 * c) 0) n c (get_or es (2 * c + 1) 0)) refl
    where
      go : (w : WalkEnd) → walk_in ds ss es ls (get_or es (2 * c) 0) n c (get_or es (2 * c + 1) 0) ≡ w → length (row_in ds ss es ls vs n c) ≡ row_size
      go w e = by (eqb (get_or ds w.at 0) 2) refl
        where
          by : (b : Bool) → eqb (get_or ds w.at 0) 2 ≡ b → length (row_in ds ss es ls vs n c) ≡ row_size
          by true q = rw (e, q)
          by false q = rw (e, q)

  rows_size : (cs : List ℕ) → length (concat (rows_in ds ss es ls vs n cs)) ≡ row_size * length cs
  unfolding rows_in concat
  rows_size [] = refl
  rows_size (x ∷ xs) = omega (arith, row_size_lem x, length-append (row_in ds ss es ls vs n x) (concat (map (row_in ds ss es ls vs n) xs)), rows_size xs)

  -- as many rows as names, and six numbers for each
  pub sheet_count : (ms : List ℕ) → length (sheet_in ds ss es ls vs n ms) ≡ length (names_in ds ss es n ms)
  unfolding sheet_in
  sheet_count ms = rows_count (names_in ds ss es n ms)

  pub sheet_size : (ms : List ℕ) → length (concat (sheet_in ds ss es ls vs n ms)) ≡ row_size * length (names_in ds ss es n ms)
  unfolding sheet_in
  sheet_size ms = rows_size (names_in ds ss es n ms)
