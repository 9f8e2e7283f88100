-- The tables of eight houses: what is put into one house is what is read there, and no other house changes.
use mathlib.Core.Path.{◌≡◌, sym, ap, ◌∙◌, subst}
use mathlib.Core.Logic.{◌≢◌}
use Prim.Native.Nat.{ℕ, zero, suc, ◌+◌, ◌-◌, ◌*◌, ◌≤◌, ◌<◌}
use native.Mathlib.Omega.{arith}
use native.Mathlib.Nat.{mul-le-mul_left}
use native.Mathlib.Decide.{dec_lt}
use mathlib.Core.Bool.{true}
use mathlib.Core.List.{List, [], ◌∷◌, ◌++◌, map}
use lib.ListN.{length, get_or, take, drop, replicate, length-append, length-drop, length-replicate, replicate-append-replicate, take-append-drop}
use lib.Seq.{take-append-le, take-take, take-nil, take_at, drop_at, drop-drop, drop-append-add, length-take-le}
use lib.Dec.{eqb}
use borrow.Author.Tests.{eq-eqb, eqb-true}
use Rattle.model.specs.Basics.{max_edges, max_vertices}
use Rattle.model.specs.Register.{Register}
use Rattle.model.specs.Tables.{Tables, cleared, eq_list, right_sizes, sizes, tables_of}
use Rattle.model.specs.Notions.{Reachable}
use Rattle.model.proofs.Basics.Booleans.{and_intro, and_true}
use Rattle.theory.proofs.Registers.Equality.{eq_list_refl, eq_list_true, tables_parts}
use Rattle.theory.proofs.Registers.Kept.{sizes_right}
use Rattle.theory.proofs.Registers.Reachable.{founded}
use Rattle.nursery.specs.Licence.{houses}
use Rattle.nursery.specs.Nursery.{Nursery, no_houses, part, put_part, put_tables, tables_in}
use Rattle.nursery.specs.Calls.{nursery_fits}

-- ---- one table

-- the part's end cut first
mid_take : (i m : ℕ) (zs : List ℕ) → take m (drop i zs) ≡ drop i (take (i + m) zs)
mid_take zero m zs =
    let e : m ≡ 0 + m = omega arith in
    ap (λ (k : ℕ). take k zs) e
mid_take (suc i) m [] = take-nil m ∙ sym (ap (drop (suc i)) (take-nil (suc i + m)))
mid_take (suc i) m (z ∷ zs) =
    let e : suc i + m ≡ suc (i + m) = omega arith in
    mid_take i m zs ∙ ap (λ (k : ℕ). drop (suc i) (take k (z ∷ zs))) (sym e)

drop_behind : (xs ys : List ℕ) (n k : ℕ) → length xs ≡ n → drop (n + k) (xs ++ ys) ≡ drop k ys
drop_behind xs ys n k e = subst (λ (m : ℕ). drop (m + k) (xs ++ ys) ≡ drop k ys) e (drop-append-add xs ys k)

-- a house that there is lies inside the table
inside : (n h k : ℕ) → h < k → n * h + n ≤ k * n
inside n h k l = let m : n * suc h ≤ n * k = mul-le-mul_left n l in omega (arith, m)

module _ (n h : ℕ) (xs ys : List ℕ) (long : n * h + n ≤ length xs) (size : length ys ≡ n) where
  front : length (take (n * h) xs) ≡ n * h
  front = length-take-le (n * h) xs (omega arith)

  part_own : part n h (put_part n h ys xs) ≡ ys
  unfolding part put_part
  part_own =
      ap (take n) (drop_at (take (n * h) xs) (ys ++ drop n (drop (n * h) xs)) (n * h) front)
      ∙ take_at ys (drop n (drop (n * h) xs)) n size

  before : (g : ℕ) → n * g + n ≤ n * h → part n g (put_part n h ys xs) ≡ part n g xs
  unfolding part put_part
  before g l =
      let zs = take (n * h) xs ++ (ys ++ drop n (drop (n * h) xs)) in
      mid_take (n * g) n zs
      ∙ ap (drop (n * g)) (take-append-le (n * g + n) (take (n * h) xs) (ys ++ drop n (drop (n * h) xs)) (omega (arith, front, l)) ∙ take-take (n * g + n) (n * h) xs l)
      ∙ sym (mid_take (n * g) n xs)

  behind : (g : ℕ) → n * h + n ≤ n * g → part n g (put_part n h ys xs) ≡ part n g xs
  unfolding part put_part
  behind g l =
      let j = n * g - (n * h + n) in
      let e : n * h + (n + j) ≡ n * g = omega arith in
      let put : drop (n * g) (take (n * h) xs ++ (ys ++ drop n (drop (n * h) xs))) ≡ drop (n * g) xs =
      ap (λ (k : ℕ). drop k (take (n * h) xs ++ (ys ++ drop n (drop (n * h) xs)))) (sym e)
      ∙ drop_behind (take (n * h) xs) (ys ++ drop n (drop (n * h) xs)) (n * h) (n + j) front
      ∙ drop_behind ys (drop n (drop (n * h) xs)) n j size
      ∙ drop-drop j n (drop (n * h) xs)
      ∙ drop-drop (n + j) (n * h) xs
      ∙ ap (λ (k : ℕ). drop k xs) e in
      ap (take n) put

  part_other : (g : ℕ) → g ≢ h → part n g (put_part n h ys xs) ≡ part n g xs
  part_other g d = go (dec_lt g h)
    where
      go : Dec (g < h) → part n g (put_part n h ys xs) ≡ part n g xs
      go (yes l) = before g (let m : n * suc g ≤ n * h = mul-le-mul_left n l in omega (arith, m))
      go (no l) = behind g (let m : n * suc h ≤ n * g = mul-le-mul_left n (omega (arith, l, d)) in omega (arith, m))

  part_length : length (put_part n h ys xs) ≡ length xs
  unfolding put_part
  part_length =
      omega (
        arith,
        length-append (take (n * h) xs) (ys ++ drop n (drop (n * h) xs)),
        length-append ys (drop n (drop (n * h) xs)),
        length-drop n (drop (n * h) xs),
        length-drop (n * h) xs,
        front,
        size,
      )

-- what is there put there again
part_same : (n h : ℕ) (xs : List ℕ) → put_part n h (part n h xs) xs ≡ xs
unfolding part put_part
part_same n h xs = ap (λ (ys : List ℕ). take (n * h) xs ++ ys) (take-append-drop n (drop (n * h) xs)) ∙ take-append-drop (n * h) xs

part_cleared : (n h m : ℕ) → n * h + n ≤ m → part n h (replicate m 0) ≡ replicate n 0
unfolding part
part_cleared n h m l =
    let rest = m - (n * h + n) in
    let e : n * h + (n + rest) ≡ m = omega arith in
    ap (λ (k : ℕ). take n (drop (n * h) (replicate k 0))) (sym e)
    ∙ ap (λ (xs : List ℕ). take n (drop (n * h) xs)) (sym (replicate-append-replicate (n * h) (n + rest) 0))
    ∙ ap (take n) (drop_at (replicate (n * h) 0) (replicate (n + rest) 0) (n * h) (length-replicate {A = ℕ} (n * h) 0))
    ∙ ap (take n) (sym (replicate-append-replicate n rest 0))
    ∙ take_at (replicate n 0) (replicate rest 0) n (length-replicate {A = ℕ} n 0)

-- ---- all tables

-- tables of k houses
pub record Sized (k : ℕ) (t : Tables) : Type 0 where
  pub degrees_long : length t.degrees ≡ k * max_vertices
  pub sides_long : length t.sides ≡ k * (2 * max_vertices)
  pub ends_long : length t.ends ≡ k * (2 * max_edges)
  pub lengths_long : length t.lengths ≡ k * max_edges
  pub volumes_long : length t.volumes ≡ k * max_edges
  pub labels_long : length t.labels ≡ k * max_vertices

-- the tables of one register
pub one_house : (r : Register) → Reachable r → Sized 1 (tables_of r)
unfolding sizes right_sizes
one_house r k =
    let e = sizes_right r (founded r k).labels_long (founded r k).room in
    record {
      degrees_long = ap (λ (xs : List ℕ). get_or xs 0 0) e;
      sides_long = ap (λ (xs : List ℕ). get_or xs 1 0) e;
      ends_long = ap (λ (xs : List ℕ). get_or xs 2 0) e;
      lengths_long = ap (λ (xs : List ℕ). get_or xs 3 0) e;
      volumes_long = ap (λ (xs : List ℕ). get_or xs 4 0) e;
      labels_long = ap (λ (xs : List ℕ). get_or xs 5 0) e;
    }

-- one table of eight houses, and the numbers of one house for it
module _ (h : ℕ) (l : h < houses) (n : ℕ) (xs ys : List ℕ) (e : length xs ≡ houses * n) (f : length ys ≡ 1 * n) where
  long : n * h + n ≤ length xs
  long = omega (arith, inside n h houses l, e)

  one : length ys ≡ n
  one = omega (arith, f)

  own_part : part n h (put_part n h ys xs) ≡ ys
  own_part = part_own n h xs ys long one

  other_part : (g : ℕ) → g ≢ h → part n g (put_part n h ys xs) ≡ part n g xs
  other_part g d = part_other n h xs ys long one g d

  still_long : length (put_part n h ys xs) ≡ houses * n
  still_long = part_length n h xs ys long one ∙ e

module _ (h : ℕ) (own t : Tables) (l : h < houses) (o : Sized 1 own) (s : Sized houses t) where
  -- the tables that are put into house h are read there
  pub house_own : tables_in h (put_tables h own t) ≡ own
  unfolding tables_in put_tables
  house_own =
      tables_parts
      (own_part h l max_vertices t.degrees own.degrees s.degrees_long o.degrees_long)
      (own_part h l (2 * max_vertices) t.sides own.sides s.sides_long o.sides_long)
      (own_part h l (2 * max_edges) t.ends own.ends s.ends_long o.ends_long)
      (own_part h l max_edges t.lengths own.lengths s.lengths_long o.lengths_long)
      (own_part h l max_edges t.volumes own.volumes s.volumes_long o.volumes_long)
      (own_part h l max_vertices t.labels own.labels s.labels_long o.labels_long)

  -- any other house has its own
  pub house_other : (g : ℕ) → g ≢ h → tables_in g (put_tables h own t) ≡ tables_in g t
  unfolding tables_in put_tables
  house_other g d =
      tables_parts
      (other_part h l max_vertices t.degrees own.degrees s.degrees_long o.degrees_long g d)
      (other_part h l (2 * max_vertices) t.sides own.sides s.sides_long o.sides_long g d)
      (other_part h l (2 * max_edges) t.ends own.ends s.ends_long o.ends_long g d)
      (other_part h l max_edges t.lengths own.lengths s.lengths_long o.lengths_long g d)
      (other_part h l max_edges t.volumes own.volumes s.volumes_long o.volumes_long g d)
      (other_part h l max_vertices t.labels own.labels s.labels_long o.labels_long g d)

  -- and the tables are as long as before
  pub house_sized : Sized houses (put_tables h own t)
  unfolding put_tables
  house_sized =
      record {
        degrees_long = still_long h l max_vertices t.degrees own.degrees s.degrees_long o.degrees_long;
        sides_long = still_long h l (2 * max_vertices) t.sides own.sides s.sides_long o.sides_long;
        ends_long = still_long h l (2 * max_edges) t.ends own.ends s.ends_long o.ends_long;
        lengths_long = still_long h l max_edges t.lengths own.lengths s.lengths_long o.lengths_long;
        volumes_long = still_long h l max_edges t.volumes own.volumes s.volumes_long o.volumes_long;
        labels_long = still_long h l max_vertices t.labels own.labels s.labels_long o.labels_long;
      }

-- the tables of a house put there again change nothing
pub house_same : (h : ℕ) (t : Tables) → put_tables h (tables_in h t) t ≡ t
unfolding tables_in put_tables
house_same h t =
    tables_parts
    (part_same max_vertices h t.degrees)
    (part_same (2 * max_vertices) h t.sides)
    (part_same (2 * max_edges) h t.ends)
    (part_same max_edges h t.lengths)
    (part_same max_edges h t.volumes)
    (part_same max_vertices h t.labels)

-- ---- eight cleared houses

-- they have the lengths of eight houses
pub cleared_sized : Sized houses no_houses.tables
unfolding no_houses
cleared_sized =
    record {
      degrees_long = length-replicate {A = ℕ} (houses * max_vertices) 0;
      sides_long = length-replicate {A = ℕ} (houses * (2 * max_vertices)) 0;
      ends_long = length-replicate {A = ℕ} (houses * (2 * max_edges)) 0;
      lengths_long = length-replicate {A = ℕ} (houses * max_edges) 0;
      volumes_long = length-replicate {A = ℕ} (houses * max_edges) 0;
      labels_long = length-replicate {A = ℕ} (houses * max_vertices) 0;
    }

-- each of them has cleared tables
pub house_cleared : (h : ℕ) → h < houses → tables_in h no_houses.tables ≡ cleared
unfolding tables_in no_houses cleared
house_cleared h l =
    tables_parts
    (part_cleared max_vertices h (houses * max_vertices) (inside max_vertices h houses l))
    (part_cleared (2 * max_vertices) h (houses * (2 * max_vertices)) (inside (2 * max_vertices) h houses l))
    (part_cleared (2 * max_edges) h (houses * (2 * max_edges)) (inside (2 * max_edges) h houses l))
    (part_cleared max_edges h (houses * max_edges) (inside max_edges h houses l))
    (part_cleared max_edges h (houses * max_edges) (inside max_edges h houses l))
    (part_cleared max_vertices h (houses * max_vertices) (inside max_vertices h houses l))

-- ---- 25

abbrev right_all : List ℕ
right_all = map (λ (k : ℕ). houses * k) right_sizes

-- tables of eight houses and eight shares fit
pub sized_fits : (n : Nursery) → Sized houses n.tables → length n.shares ≡ houses → nursery_fits n ≡ true
unfolding nursery_fits sizes right_sizes
sized_fits n s e =
    let fit : eq_list (sizes n.tables) right_all ≡ true = rw (s.degrees_long, s.sides_long, s.ends_long, s.lengths_long, s.volumes_long, s.labels_long) (eq_list_refl right_all) in
    and_intro fit (eq-eqb (length n.shares) houses e)

-- and no others do
pub fits_sized : (n : Nursery) → nursery_fits n ≡ true → Sized houses n.tables × (length n.shares ≡ houses)
unfolding nursery_fits sizes right_sizes
fits_sized n f =
    let p = and_true (eq_list (sizes n.tables) right_all) (eqb (length n.shares) houses) f in
    let e = eq_list_true (sizes n.tables) right_all p.0 in (
      record {
        degrees_long = ap (λ (xs : List ℕ). get_or xs 0 0) e;
        sides_long = ap (λ (xs : List ℕ). get_or xs 1 0) e;
        ends_long = ap (λ (xs : List ℕ). get_or xs 2 0) e;
        lengths_long = ap (λ (xs : List ℕ). get_or xs 3 0) e;
        volumes_long = ap (λ (xs : List ℕ). get_or xs 4 0) e;
        labels_long = ap (λ (xs : List ℕ). get_or xs 5 0) e;
      },
      eqb-true (length n.shares) houses p.1,
    )
