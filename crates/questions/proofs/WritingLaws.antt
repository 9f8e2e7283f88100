-- The ways out of `write_in`, and that what it writes over the tables of a register is the register's list.
use mathlib.Core.Path.{◌≡◌, sym}
use Prim.Native.Nat.{ℕ, ◌+◌, ◌*◌, ◌≤◌, ◌<◌}
use native.Mathlib.Omega.{arith}
use mathlib.Core.List.{List}
use lib.ListN.{length}
use borrow.Author.Tests.{lt-ltb, le-ltb}
use Rattle.model.specs.Format.{written}
use Rattle.model.specs.Queries.{Reply, refuses, wrote}
use Rattle.model.specs.Tables.{Counts}
use Rattle.model.specs.Calls.{answer, fills, writing}
use Rattle.theory.proofs.Registers.OnlyHeld.{held_counts, held_tables}
use Rattle.tables.specs.Meaning.{tables}
use Rattle.text.specs.Pages.{page, write}
use Rattle.text.proofs.PageLaws.{write_front}
use Rattle.list.specs.Writing.{list_in}
use Rattle.list.proofs.WritingLaws.{list_bytes, list_written}
use Rattle.questions.specs.Answering.{answered, written_in}
use Rattle.questions.proofs.Answers.{Answers}

module _ (ends lengths volumes : List ℕ) (c : Counts) (xs : List ℕ) (k : ℕ) (size : k ≡ 5 + c.vertices + 13 * c.edges) where
  long : length (list_in ends lengths volumes c) ≡ 5 + c.vertices + 13 * c.edges
  long = list_bytes ends lengths volumes c

  -- too short a slice: 9; else the list, and how many bytes
  pub write_short : length xs < k → answered xs (refuses 9) ≡ written_in ends lengths volumes c xs
  unfolding written_in fills
  write_short h =
      let l : length xs < length (list_in ends lengths volumes c) = omega (arith, long) in
      rw (lt-ltb (length xs) (length (list_in ends lengths volumes c)) l)

  pub write_whole : (ys : List ℕ) (at : ℕ) → k ≤ length xs → page ys at ≡ write (list_in ends lengths volumes c) (page xs 0)
      → answered ys (wrote k) ≡ written_in ends lengths volumes c xs
  unfolding written_in fills
  write_whole ys at h e =
      let bs = list_in ends lengths volumes c in
      let l : length bs ≤ length xs = omega (arith, long) in
      rw (le-ltb (length xs) (length bs) l, long, ← size, write_front bs xs ys at l e)

-- the list put over the tables of a register is answered
pub write_answers : (d s e l v labels : List ℕ) (c : Counts) (xs ys : List ℕ) (a : Reply) → answered ys a ≡ written_in e l v c xs
    → Answers (writing xs) (tables d s e l v labels) c ys a
unfolding answer written_in
write_answers d s e l v labels c xs ys a h o k =
    let r = o.register in
    let bs : list_in e l v c ≡ written r = list_written r (tables d s e l v labels) c (sym (held_tables k)) (sym (held_counts k)) in
    let q : answered ys a ≡ fills xs (written r) (wrote (length (written r))) = rw bs at h in
    λ i. record { slice = (sym q i).slice; reply = (sym q i).reply }
