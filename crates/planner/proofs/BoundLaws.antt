-- How many numbers are too many windows, and a minute that is none of the week, for 34.
use mathlib.Core.Path.{◌≡◌, refl}
use Prim.Native.Nat.{ℕ, ◌<◌}
use native.Mathlib.Omega.{arith}
use native.Mathlib.Decide.{dec_lt}
use mathlib.Core.Bool.{Bool, true, false, ◌||◌}
use mathlib.Core.List.{List}
use lib.ListN.{length}
use lib.Dec.{ltb}
use borrow.Author.Tests.{lt-ltb, le-ltb}
use Rattle.planner.specs.Numbers.{max_flow, max_windows}
use Rattle.planner.specs.Windows.{Window, windows_in}
use Rattle.planner.specs.Planning.{out_of_bounds}
use Rattle.planner.proofs.WindowLaws.{count_least, count_most}

-- more than 64 numbers are more than 32 windows
pub counted : (xs : List ℕ) → ltb 64 (length xs) ≡ ltb max_windows (length (windows_in xs))
counted xs = go (dec_lt 64 (length xs))
  where
    go : Dec (64 < length xs) → ltb 64 (length xs) ≡ ltb max_windows (length (windows_in xs))
    go (yes h) = rw (lt-ltb 64 (length xs) h, lt-ltb max_windows (length (windows_in xs)) (omega (arith, count_least xs)))
    go (no h) = rw (le-ltb 64 (length xs) (omega arith), le-ltb max_windows (length (windows_in xs)) (omega (arith, count_most xs)))

-- a minute that is no minute of the week is out of bounds, whatever else is given
pub minute_out : (flow minute : ℕ) (ws : List Window) → 10079 < minute → out_of_bounds flow minute ws ≡ true
unfolding out_of_bounds
minute_out flow minute ws h = rw (lt-ltb 10079 minute h) (go (ltb flow 1) (ltb max_flow flow))
  where
    go : (a b : Bool) → (a || (b || true)) ≡ true
    go true b = refl
    go false true = refl
    go false false = refl
