-- Document 02, S-13: the two calls, what each leaves and answers.
use Rattle.std.specs.Prelude.{ℕ, not, List, set, ltb, if◌then◌else◌}
use Rattle.valve.specs.Numbers.{slots, max_amount}
use Rattle.valve.specs.Window.{Record, total, Window, window, after, newest, records_of, sizes_fit, held}
use Rattle.valve.specs.Valve.{Reply, taken, refuses, at_valve}

-- "The window's stated sum must equal that of its records": these tables and the next slot, with that sum
unfoldable pub summed : List ℕ → List ℕ → ℕ → Window
summed recipes amounts next = window recipes amounts next (total (newest recipes amounts slots next))

-- "a moving window": a record more, in the slot of the oldest
unfoldable pub with_record : Record → Window → Window
with_record r w = summed (set w.recipes w.next r.recipe) (set w.amounts w.next r.amount) (after w.next)

pub record Outcome : Type 0 where
  pub window : Window
  pub reply : Reply

abbrev pub outcome : Window → Reply → Outcome
outcome w a = record { window = w; reply = a }

-- 25, then 21: both calls look for these first
unfoldable pub gated : Window → Outcome → Outcome
gated w o =
    if not (sizes_fit w.recipes w.amounts) then outcome w (refuses 25)
    else if not (held w) then outcome w (refuses 21)
    else o

-- "40 a record above 1,000,000 ml, after 21, nothing changed"
unfoldable pub arrives : Record → Window → Outcome
arrives r w = gated w (if ltb max_amount r.amount then outcome w (refuses 40) else outcome (with_record r w) taken)

-- "answer, for a valve whose water lies V ml down the main"
unfoldable pub asks : ℕ → Window → Outcome
asks v w = gated w (outcome w (at_valve v (records_of w)))
