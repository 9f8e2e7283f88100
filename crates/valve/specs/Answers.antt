-- Document 02's number of each refusal and values of each answer; the lent tables and a head as a window.
use Rattle.std.specs.Prelude as rust
use Rattle.std.specs.Prelude.{ℕ, List, Result, Ok, Err, ⊤}
use Rattle.std.proofs.Math.Option.{Option, none, some}
use Rattle.valve.specs.Window.{Window, window}
use Rattle.valve.specs.Valve.{Reply, taken, recipe_is, older, refuses}
use Rattle.valve.specs.declared.answers.Head.{Head}
use Rattle.valve.specs.declared.answers.Refusal.{Refusal}
use Rattle.valve.specs.declared.answers.Refusal.TheVariants.{WrongSize, NotFromArrivals, TooMuch}
use Rattle.valve.specs.declared.numbers.Recipe.{Recipe}

abbrev pub number_of : Refusal → ℕ
-- "a table of the wrong size" (document 01)
number_of WrongSize = 25
-- "A window that arrivals from empty can't leave"
number_of NotFromArrivals = 21
-- "a record above 1,000,000 ml"
number_of TooMuch = 40

abbrev pub as_window : List ℕ → List ℕ → Head → Window
as_window recipes amounts h = window recipes amounts h.next.0 h.sum

-- the refusal of a gate; none where it lets a call on
abbrev pub gate_refusal : Result ⊤ Refusal → Option ℕ
gate_refusal (Ok _) = none
gate_refusal (Err x) = some (number_of x)

abbrev pub arrived_reply : Result Head Refusal → Reply
arrived_reply (Ok h) = taken
arrived_reply (Err x) = refuses (number_of x)

-- the head after an arrival: the one that is answered, or the same as before
abbrev pub head_after : Head → Result Head Refusal → Head
head_after h (Ok h') = h'
head_after h (Err x) = h

-- what the walk back finds
abbrev pub back_reply : rust.Option Recipe → Reply
back_reply (rust.Some r) = recipe_is r.0
back_reply rust.None = older

abbrev pub found_reply : Result (rust.Option Recipe) Refusal → Reply
found_reply (Ok r) = back_reply r
found_reply (Err x) = refuses (number_of x)
