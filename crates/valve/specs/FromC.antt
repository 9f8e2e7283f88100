-- The two calls from C, over a window that the caller keeps: an answer as one number.
use Rattle.std.specs.Prelude.{ℤ, pos, neg_ℤ}
use Rattle.valve.specs.Window.{Window}
use Rattle.valve.specs.Valve.{Reply, taken, recipe_is, older, refuses}
use Rattle.valve.specs.Calls.{Outcome}

-- 0 for a record that was taken; a recipe, or 65,536, which is none, for "older than the window"; "the refusal's number made negative"
-- (document 01)
unfoldable pub number_in_c : Reply → ℤ
number_in_c taken = pos 0
number_in_c (recipe_is r) = pos r
number_in_c older = pos 65536
number_in_c (refuses n) = neg_ℤ (pos n)

-- the window that the caller has afterwards, and the number that the call returns
pub record InC : Type 0 where
  pub window : Window
  pub value : ℤ

abbrev pub in_c : Window → ℤ → InC
in_c w n = record { window = w; value = n }

unfoldable pub outcome_in_c : Outcome → InC
outcome_in_c o = in_c o.window (number_in_c o.reply)
