-- Document 02, S-13: records, a window of them as a ring of 1,440 slots, and the windows that are refused.
use Rattle.std.specs.Prelude.{ℕ, zero, suc, ◌+◌, ◌-◌, Bool, true, ◌&&◌, List, [], ◌∷◌, length, get_or, replicate, eqb, leb, ltb, if◌then◌else◌}
use Rattle.valve.specs.Numbers.{slots, max_amount}

-- "one record a minute, a 16-bit recipe number and the ml passed"
pub record Record : Type 0 where
  pub recipe : ℕ
  pub amount : ℕ

abbrev pub record_of : ℕ → ℕ → Record
record_of recipe amount = record { recipe = recipe; amount = amount }

-- the ml that some records hold
unfoldable pub total : List Record → ℕ
total [] = 0
total (r ∷ rs) = r.amount + total rs

-- two tables with a place for each slot; the slot that takes the next record; "the window's stated sum"
pub record Window : Type 0 where
  pub recipes : List ℕ
  pub amounts : List ℕ
  pub next : ℕ
  pub sum : ℕ

abbrev pub window : List ℕ → List ℕ → ℕ → ℕ → Window
window recipes amounts next sum = record { recipes = recipes; amounts = amounts; next = next; sum = sum }

-- "from empty". A slot that no record has taken holds recipe 0 and 0 ml, which adds nothing and never answers: so no count of records
-- is kept.
unfoldable pub empty : Window
empty = window (replicate slots 0) (replicate slots 0) 0 0

-- the slots before and after slot i, round the ring
unfoldable pub before : ℕ → ℕ
before i = if eqb i 0 then slots - 1 else i - 1

unfoldable pub after : ℕ → ℕ
after i = if ltb i (slots - 1) then i + 1 else 0

-- the records of n slots, from the one before slot i back
unfoldable pub newest : List ℕ → List ℕ → ℕ → ℕ → List Record
newest recipes amounts zero i = []
newest recipes amounts (suc n) i =
    record_of (get_or recipes (before i) 0) (get_or amounts (before i) 0) ∷ newest recipes amounts n (before i)

-- the records of a window, the newest first
unfoldable pub records_of : Window → List Record
records_of w = newest w.recipes w.amounts slots w.next

-- 25: "a table of the wrong size" (document 01)
unfoldable pub sizes_fit : List ℕ → List ℕ → Bool
sizes_fit recipes amounts = eqb (length recipes) slots && eqb (length amounts) slots

-- no record "above 1,000,000 ml"
unfoldable pub all_within : List Record → Bool
all_within [] = true
all_within (r ∷ rs) = leb r.amount max_amount && all_within rs

-- 21 where this fails: "A window that arrivals from empty can't leave". That it holds of exactly those that arrivals leave is a theorem.
unfoldable pub held : Window → Bool
held w = ltb w.next slots && (all_within (records_of w) && eqb (total (records_of w)) w.sum)
