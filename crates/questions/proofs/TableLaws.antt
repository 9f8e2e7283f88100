-- The ways out of the work of each query on the tables.
use mathlib.Core.Path.{◌≡◌, sym, ap, ◌∙◌}
use Prim.Native.Nat.{ℕ, ◌*◌, ◌/◌, ◌≤◌, ◌<◌}
use native.Mathlib.Omega.{arith}
use mathlib.Core.Option.{none, some}
use mathlib.Core.Bool.{Bool, true, false}
use mathlib.Core.List.{List}
use lib.ListN.{length, get_or}
use lib.Dec.{leb}
use borrow.Author.Tests.{leb-true, leb-false, lt-ltb, le-ltb}
use Rattle.model.specs.Basics.{row_size}
use Rattle.model.specs.Queries.{Reply, concat, listed, refuses}
use Rattle.model.specs.Tables.{Tables, Counts}
use Rattle.chains.specs.Chains.{names_in, sheet_in}
use Rattle.holders.specs.Newest.{Sought, search_in}
use Rattle.holders.specs.Finding.{find_at_in, find_in}
use Rattle.chains.proofs.SheetLaws.{sheet_count}
use Rattle.text.specs.Pages.{page, write}
use Rattle.std.specs.Prelude as rust
use Rattle.std.specs.Option.{ok_or}
use Rattle.counters.specs.declared.refusals.Refusal.TheVariants.{NotRegular}
use Rattle.looking.specs.Answers.{as_found}
use Rattle.looking.specs.declared.through.FoundChain.{FoundChain}
use Rattle.questions.specs.Meaning.{found_reply}
use Rattle.questions.specs.Answering.{answered, sheeted_in}

-- ---- find

module _ (t : Tables) where
  module _ (n m label : ℕ) (s : Sought) (e : s ≡ search_in t.degrees t.sides t.ends t.lengths t.labels n m label) where
    -- nobody wears the label: 8; else what is told of the one who does
    find_nobody : none ≡ s.found → refuses 8 ≡ find_in t n m label
    unfolding find_in
    find_nobody f = let g : (search_in t.degrees t.sides t.ends t.lengths t.labels n m label).found ≡ none = rw e at (sym f) in rw (g, find_in)

    find_told : (a : Reply) → some a ≡ s.found → a ≡ find_in t n m label
    unfolding find_in
    find_told a f = let g : (search_in t.degrees t.sides t.ends t.lengths t.labels n m label).found ≡ some a = rw e at (sym f) in rw (g, find_in)

    pub find_reply : (o : rust.Option FoundChain) → as_found o ≡ s.found → found_reply (ok_or o NotRegular) ≡ find_in t n m label
    find_reply (rust.Some c) f = find_told _ f
    find_reply rust.None f = find_nobody f

  -- through the label of a vertex
  pub find_at_law : (n m v label : ℕ) (r : Reply) → label ≡ get_or t.labels v 0 → r ≡ find_in t n m label → r ≡ find_at_in t n m v
  unfolding find_at_in
  find_at_law n m v label r e f = f ∙ ap (find_in t n m) e

-- ---- sheet

module _ (t : Tables) (c : Counts) where
  module _ (counting marks xs : List ℕ) (fits : Bool)
      (room : fits ≡ leb (length (names_in t.degrees t.sides t.ends c.edges counting)) (length xs / row_size)) where
    chains : ℕ
    chains = length (names_in t.degrees t.sides t.ends c.edges counting)

    -- too short a slice: 9; else all rows, and how many
    pub sheet_short : fits ≡ false → answered xs (refuses 9) ≡ sheeted_in t c counting marks xs
    unfolding sheeted_in chains
    sheet_short h =
        let l : length xs < row_size * chains = omega (arith, leb-false chains (length xs / row_size) (sym room ∙ h)) in
        rw (lt-ltb (length xs) (row_size * chains) l)

    pub sheet_whole : (k : ℕ) (ys : List ℕ) → fits ≡ true → k ≡ length (names_in t.degrees t.sides t.ends c.edges marks)
        → ys ≡ (write (concat (sheet_in t.degrees t.sides t.ends t.lengths t.volumes c.edges marks)) (page xs 0)).slice
        → answered ys (listed k) ≡ sheeted_in t c counting marks xs
    unfolding sheeted_in chains
    sheet_whole k ys h e f =
        let l : row_size * chains ≤ length xs = omega (arith, leb-true chains (length xs / row_size) (sym room ∙ h)) in
        rw (le-ltb (length xs) (row_size * chains) l, f, e, sheet_count t.degrees t.sides t.ends t.lengths t.volumes c.edges marks)
