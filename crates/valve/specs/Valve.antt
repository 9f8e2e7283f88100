-- Document 02, S-13: the recipe at the valve, worked out from records, the newest first.
use Rattle.std.specs.Prelude.{ℕ, ◌-◌, true, false, List, [], ◌∷◌, ltb}
use Rattle.valve.specs.Window.{Record}

-- `older` is "older than the window"
pub data Reply : Type 0 where
  taken : Reply
  recipe_is : ℕ → Reply
  older : Reply
  refuses : ℕ → Reply

-- "the recipe of the record that holds the ml number V + 1 counted back from now". The newest record holds the ml numbers 1 up to its
-- amount, so V + 1 is one of them if V is less than the amount; else it is, counted back over the records before it, number V + 1 less that
-- amount.
unfoldable pub at_valve : ℕ → List Record → Reply
at_valve v [] = older
at_valve v (r ∷ rs) = elim (ltb v r.amount) [ true ↦ recipe_is r.recipe | false ↦ at_valve (v - r.amount) rs ]
