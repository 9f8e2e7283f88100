-- What a call on the part of one house leaves of the tables and heads of all eight.
use mathlib.Core.Path.{◌≡◌, ap, ◌∙◌}
use Prim.Native.Nat.{ℕ, ◌+◌, ◌*◌, ◌-◌}
use native.Mathlib.Omega.{arith}
use mathlib.Core.List.{List}
use lib.ListN.{drop, get_or, set, take}
use borrow.Rule.Slice.PartMut.{put_mid}
use Rattle.model.specs.Queries.{Reply}
use Rattle.model.specs.Tables.{Counts, Tables, no_counts}
use Rattle.tables.specs.Meaning.{tables}
use Rattle.nursery.specs.Nursery.{put_part, put_tables, tables_in}
use Rattle.nursery.specs.Calls.{HouseCall}
use Rattle.admission.specs.Own.{own_step}
use Rattle.admission.specs.Lent as own
use Rattle.licence.proofs.CallLaws.{parts_are}
use Rattle.licence.specs.Left.{left, put_own}

module _ (h : ℕ) (degrees sides ends lengths volumes labels : List ℕ) (heads : List Counts) where
  one : 4096 * h + 4096 - 4096 * h ≡ 4096
  one = omega arith

  two : 8192 * h + 8192 - 8192 * h ≡ 8192
  two = omega arith

  -- the tables and heads of all, with these for house h
  put_left : (d s n l v b : List ℕ) (c : Counts) (z : Tables) (ys : List ℕ) (a : Reply) (heads' : List Counts) → heads' ≡ set heads h c
      → left
      (tables
      (put_mid (4096 * h) (4096 * h + 4096 - 4096 * h) degrees d)
      (put_mid (8192 * h) (8192 * h + 8192 - 8192 * h) sides s)
      (put_mid (8192 * h) (8192 * h + 8192 - 8192 * h) ends n)
      (put_mid (4096 * h) (4096 * h + 4096 - 4096 * h) lengths l)
      (put_mid (4096 * h) (4096 * h + 4096 - 4096 * h) volumes v)
      (put_mid (4096 * h) (4096 * h + 4096 - 4096 * h) labels b))
      heads'
      z
      ys
      a
      ≡ put_own h (tables degrees sides ends lengths volumes labels) heads (own.outcome (tables d s n l v b) c z ys a)
  unfolding put_own put_tables put_part
  put_left d s n l v b c z ys a heads' e = rw (one, two, e)

  -- what the call leaves that has had the parts and the head of house h
  pub part_left : (d s n l v b : List ℕ) (c c' : Counts) (z z' : Tables) (ys : List ℕ) (a : Reply) (heads' : List Counts) (limit removals removals' : ℕ) (call : HouseCall)
      → removals ≡ removals' → c ≡ get_or heads h no_counts → heads' ≡ set heads h c'
      → own.outcome (tables d s n l v b) c' z' ys a
      ≡ own_step limit removals call
      (own.lent
      (tables
      (take (4096 * h + 4096 - 4096 * h) (drop (4096 * h) degrees))
      (take (8192 * h + 8192 - 8192 * h) (drop (8192 * h) sides))
      (take (8192 * h + 8192 - 8192 * h) (drop (8192 * h) ends))
      (take (4096 * h + 4096 - 4096 * h) (drop (4096 * h) lengths))
      (take (4096 * h + 4096 - 4096 * h) (drop (4096 * h) volumes))
      (take (4096 * h + 4096 - 4096 * h) (drop (4096 * h) labels)))
      c
      z)
      → left
      (tables
      (put_mid (4096 * h) (4096 * h + 4096 - 4096 * h) degrees d)
      (put_mid (8192 * h) (8192 * h + 8192 - 8192 * h) sides s)
      (put_mid (8192 * h) (8192 * h + 8192 - 8192 * h) ends n)
      (put_mid (4096 * h) (4096 * h + 4096 - 4096 * h) lengths l)
      (put_mid (4096 * h) (4096 * h + 4096 - 4096 * h) volumes v)
      (put_mid (4096 * h) (4096 * h + 4096 - 4096 * h) labels b))
      heads'
      z'
      ys
      a
      ≡ put_own h (tables degrees sides ends lengths volumes labels) heads
      (own_step limit removals' call (own.lent (tables_in h (tables degrees sides ends lengths volumes labels)) (get_or heads h no_counts) z))
  part_left d s n l v b c c' z z' ys a heads' limit removals removals' call k w e q =
      put_left d s n l v b c' z' ys a heads' e
      ∙ ap (put_own h (tables degrees sides ends lengths volumes labels) heads)
      (q
      ∙ ap (λ (t : Tables). own_step limit removals call (own.lent t c z)) (parts_are h degrees sides ends lengths volumes labels)
      ∙ ap (λ (k : Counts). own_step limit removals call (own.lent (tables_in h (tables degrees sides ends lengths volumes labels)) k z)) w
      ∙ ap (λ (i : ℕ). own_step limit i call (own.lent (tables_in h (tables degrees sides ends lengths volumes labels)) (get_or heads h no_counts) z)) k)
