-- Tables, counts and what is stored are equal where their parts are, and the tests of equality find just that.
use mathlib.Core.Path.{◌≡◌, refl}
use Prim.Native.Nat.{ℕ}
use native.Mathlib.Omega.{arith}
use mathlib.Core.Bool.{Bool, true, false}
use mathlib.Core.List.{List, [], ◌∷◌}
use lib.Dec.{eqb}
use borrow.Author.Tests.{eq-eqb, eqb-true}
use Rattle.model.specs.Tables.{Counts, Stored, Tables, eq_counts, eq_list, eq_stored, eq_tables}
use Rattle.model.proofs.Basics.Booleans.{and_true}

-- ---- by their parts

-- tables are equal where all six lists are
pub tables_parts : {a a' b b' c c' d d' e e' f f' : List ℕ} → a ≡ a' → b ≡ b' → c ≡ c' → d ≡ d' → e ≡ e' → f ≡ f'
    → ◌≡◌ {A = Tables} (record { degrees = a; sides = b; ends = c; lengths = d; volumes = e; labels = f })
    (record { degrees = a'; sides = b'; ends = c'; lengths = d'; volumes = e'; labels = f' })
tables_parts p q r s t u = λ i. record { degrees = p i; sides = q i; ends = r i; lengths = s i; volumes = t i; labels = u i }

-- counts are equal where all four numbers are
pub counts_parts : {a a' b b' c c' d d' : ℕ} → a ≡ a' → b ≡ b' → c ≡ c' → d ≡ d'
    → ◌≡◌ {A = Counts} (record { vertices = a; edges = b; blocks = c; relabellings = d })
    (record { vertices = a'; edges = b'; blocks = c'; relabellings = d' })
counts_parts p q r s = λ i. record { vertices = p i; edges = q i; blocks = r i; relabellings = s i }

pub stored_parts : {t t' : Tables} {c c' : Counts} → t ≡ t' → c ≡ c'
    → ◌≡◌ {A = Stored} (record { tables = t; counts = c }) (record { tables = t'; counts = c' })
stored_parts p q = λ i. record { tables = p i; counts = q i }

-- ---- what is equal passes the test

-- a list is equal to itself
pub eq_list_refl : (xs : List ℕ) → eq_list xs xs ≡ true
unfolding eq_list
eq_list_refl [] = refl
eq_list_refl (x ∷ xs) = rw (eq-eqb x x refl, eq_list) (eq_list_refl xs)

eq_tables_refl : (t : Tables) → eq_tables t t ≡ true
unfolding eq_tables
eq_tables_refl t =
    rw (
      eq_list_refl t.degrees,
      eq_list_refl t.sides,
      eq_list_refl t.ends,
      eq_list_refl t.lengths,
      eq_list_refl t.volumes,
      eq_list_refl t.labels,
    )

eq_counts_refl : (c : Counts) → eq_counts c c ≡ true
unfolding eq_counts
eq_counts_refl c =
    rw (
      eq-eqb c.vertices c.vertices refl,
      eq-eqb c.edges c.edges refl,
      eq-eqb c.blocks c.blocks refl,
      eq-eqb c.relabellings c.relabellings refl,
    )

-- what is stored is equal to itself
pub eq_stored_refl : (s : Stored) → eq_stored s s ≡ true
unfolding eq_stored
eq_stored_refl s = rw (eq_tables_refl s.tables, eq_counts_refl s.counts)

-- ---- and what passes it is equal

-- lists that pass the test are equal
pub eq_list_true : (xs ys : List ℕ) → eq_list xs ys ≡ true → xs ≡ ys
unfolding eq_list
eq_list_true [] [] e = refl
eq_list_true [] (y ∷ ys) e = absurd (let z : ◌≡◌ {A = ℕ} 0 1 = cc in omega arith)
eq_list_true (x ∷ xs) [] e = absurd (let z : ◌≡◌ {A = ℕ} 0 1 = cc in omega arith)
eq_list_true (x ∷ xs) (y ∷ ys) e = go (eqb x y) refl (λ h. eq_list_true xs ys h)
  where
    go : (b : Bool) → eqb x y ≡ b → (eq_list xs ys ≡ true → xs ≡ ys) → x ∷ xs ≡ y ∷ ys
    go true q ih = let i : eq_list xs ys ≡ true = rw (q, eq_list) at e in rw (eqb-true x y q, ih i) refl
    go false q ih = absurd (let f : false ≡ true = rw (q, eq_list) at e in let z : ◌≡◌ {A = ℕ} 0 1 = cc in omega arith)

eq_tables_true : (t u : Tables) → eq_tables t u ≡ true → t ≡ u
unfolding eq_tables
eq_tables_true t u e =
    let h₅ = and_true _ (eq_list t.labels u.labels) e in
    let h₄ = and_true _ (eq_list t.volumes u.volumes) h₅.0 in
    let h₃ = and_true _ (eq_list t.lengths u.lengths) h₄.0 in
    let h₂ = and_true _ (eq_list t.ends u.ends) h₃.0 in
    let h₁ = and_true (eq_list t.degrees u.degrees) (eq_list t.sides u.sides) h₂.0 in
    tables_parts (eq_list_true _ _ h₁.0) (eq_list_true _ _ h₁.1) (eq_list_true _ _ h₂.1) (eq_list_true _ _ h₃.1)
    (eq_list_true _ _ h₄.1) (eq_list_true _ _ h₅.1)

eq_counts_true : (c k : Counts) → eq_counts c k ≡ true → c ≡ k
unfolding eq_counts
eq_counts_true c k e =
    let h₃ = and_true _ (eqb c.relabellings k.relabellings) e in
    let h₂ = and_true _ (eqb c.blocks k.blocks) h₃.0 in
    let h₁ = and_true (eqb c.vertices k.vertices) (eqb c.edges k.edges) h₂.0 in
    counts_parts (eqb-true _ _ h₁.0) (eqb-true _ _ h₁.1) (eqb-true _ _ h₂.1) (eqb-true _ _ h₃.1)

-- what is stored and passes the test is equal
pub eq_stored_true : (s u : Stored) → eq_stored s u ≡ true → s ≡ u
unfolding eq_stored
eq_stored_true s u e =
    let h = and_true (eq_tables s.tables u.tables) (eq_counts s.counts u.counts) e in
    stored_parts (eq_tables_true _ _ h.0) (eq_counts_true _ _ h.1)
