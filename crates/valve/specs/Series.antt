-- Series of calls on one window from empty, and what is claimed of them.
use Rattle.std.specs.Prelude.{◌≡◌, ℕ, ◌+◌, ◌*◌, ◌≤◌, ◌<◌, true, List, [], ◌∷◌, ◌++◌, map, take, ltb, if◌then◌else◌}
use Rattle.valve.specs.Numbers.{slots, max_amount, max_recipe}
use Rattle.valve.specs.Window.{Record, Window, total, empty, records_of, sizes_fit, held}
use Rattle.valve.specs.Valve.{taken, recipe_is, older, refuses, at_valve}
use Rattle.valve.specs.Calls.{Outcome, arrives, asks}

pub data Call : Type 0 where
  arrival : Record → Call
  question : ℕ → Call

unfoldable pub makes : Call → Window → Outcome
makes (arrival r) w = arrives r w
makes (question v) w = asks v w

-- each call gets the window that the one before it left
unfoldable pub series : List Call → Window → Window
series [] w = w
series (c ∷ cs) w = series cs (makes c w).window

-- all records that arrived, the newest first: those of at most 1,000,000 ml, since 40 changes nothing
unfoldable pub taking : Call → List Record → List Record
taking (arrival r) rs = if ltb max_amount r.amount then rs else r ∷ rs
taking (question v) rs = rs

unfoldable pub arrivals : List Call → List Record → List Record
arrivals [] rs = rs
arrivals (c ∷ cs) rs = arrivals cs (taking c rs)

-- "the last 1,440 records", or all where fewer have arrived
unfoldable pub latest : List Record → List Record
latest rs = take slots rs

-- record r of these, the newest first, "holds the ml number V + 1 counted back": the newer ones hold at most v ml, and with r more
pub record HoldsNumber (v : ℕ) (rs : List Record) (r : Record) : Type 0 where
  pub newer : List Record
  pub earlier : List Record
  pub stands : rs ≡ newer ++ (r ∷ earlier)
  pub newer_hold_at_most : total newer ≤ v
  pub reached : v < total newer + r.amount

-- what holds of a window w that a series from empty leaves, and of all records rs that arrived in it, the newest first
pub record ValveIsRight (w : Window) (rs : List Record) : Type 0 where
  -- "The window's stated sum must equal that of its records"; it is that of the last 1,440 too
  pub sum_is : w.sum ≡ total (records_of w)
  pub sum_latest : w.sum ≡ total (latest rs)
  -- "the answer must equal one worked out from the last 1,440 records afresh"
  pub answer : (v : ℕ) → (asks v w).reply ≡ at_valve v (latest rs)
  -- "the recipe of the record that holds the ml number V + 1": what is answered is the recipe of one that does, and of any that does
  pub holder : (v x : ℕ) → (asks v w).reply ≡ recipe_is x → (r : Record) × (HoldsNumber v (latest rs) r × (r.recipe ≡ x))
  pub any_holder : (v : ℕ) (r : Record) → HoldsNumber v (latest rs) r → (asks v w).reply ≡ recipe_is r.recipe
  -- "Records of 0 ml .. never answer"
  pub never_of_none : (v : ℕ) (r : Record) → HoldsNumber v (latest rs) r → 0 < r.amount
  -- ""older than the window" exactly if the records hold at most V ml"
  pub older_if : (v : ℕ) → (asks v w).reply ≡ older → total (latest rs) ≤ v
  pub older_only_if : (v : ℕ) → total (latest rs) ≤ v → (asks v w).reply ≡ older
  -- 25 and 21 hold in no series: no question is refused, and an arrival with 40 alone, for its own ml
  pub never_refused : (v n : ℕ) → (asks v w).reply ≡ refuses n → ⊥
  pub taken_or_40 : (r : Record) → (arrives r w).reply ≡ if ltb max_amount r.amount then refuses 40 else taken
  -- "for months": no number of the head grows with the arrivals
  pub next_bound : w.next < slots
  pub sum_bound : w.sum ≤ slots * max_amount

-- after each series, and so "after each arrival" of it
unfoldable pub EverySeries : Type 0
EverySeries = (cs : List Call) → ValveIsRight (series cs empty) (arrivals cs [])

-- numbers of 16 bits, as recipes are
unfoldable pub Narrow : List ℕ → Type 0
Narrow [] = Unit {0}
Narrow (n ∷ ns) = (n ≤ max_recipe) × Narrow ns

abbrev pub recipes_of : List Record → List ℕ
recipes_of rs = map (λ (r : Record). r.recipe) rs

-- "A window that arrivals from empty can't leave", of records with 16-bit recipes
abbrev pub NotFromArrivals : Window → Type 0
NotFromArrivals w = (rs : List Record) → Narrow (recipes_of rs) → w ≡ series (map arrival rs) empty → ⊥

-- 21: a window of two tables of the right size, with 16-bit recipes, passes exactly if arrivals of records with 16-bit recipes leave it; no
-- series of calls, with questions and refused arrivals, leaves a window that does not pass
pub record LeftExactly (w : Window) : Type 0 where
  pub left : sizes_fit w.recipes w.amounts ≡ true → Narrow w.recipes → held w ≡ true
      → (rs : List Record) × (Narrow (recipes_of rs) × (w ≡ series (map arrival rs) empty))
  pub passes : (cs : List Call) → w ≡ series cs empty → (sizes_fit w.recipes w.amounts ≡ true) × (held w ≡ true)
  -- ".. gives 21", whatever is asked and whichever record arrives
  pub gives_21 : sizes_fit w.recipes w.amounts ≡ true → Narrow w.recipes → NotFromArrivals w → (v : ℕ) (r : Record)
      → ((asks v w).reply ≡ refuses 21) × ((arrives r w).reply ≡ refuses 21)
