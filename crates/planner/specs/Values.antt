-- Values of S-8 that tell its readings apart, as one table.
use Rattle.std.specs.Prelude.{◌≡◌, ℕ, List, [], ◌∷◌, replicate}
use Rattle.planner.specs.Windows.{windows_in}
use Rattle.planner.specs.Planning.{Reply, at, never, unknown, refuses, transit, plan}

-- volume, flow, given minute, and a slice of two numbers a window
unfoldable pub planned : ℕ → ℕ → ℕ → List ℕ → Reply
planned volume flow given xs = plan volume flow given (windows_in xs)

unfoldable pub two : List ℕ
two = 60 ∷ 120 ∷ 200 ∷ 260 ∷ []

pub record Table : Type 0 where
  -- the quotient rounded up
  pub whole : transit 900 300 ≡ 3
  pub rounded : transit 901 300 ≡ 4
  pub short : transit 1 1000000 ≡ 1
  -- 20 minutes: the window's start; its last minute that will do; one later; the next week
  pub waits : planned 1000 50 0 two ≡ at 60
  pub last : planned 1000 50 100 two ≡ at 100
  pub later : planned 1000 50 101 two ≡ at 200
  pub next_week : planned 1000 50 10000 two ≡ at 10140
  -- a window as long as the transit; a minute longer
  pub just : planned 60 1 10000 (60 ∷ 120 ∷ []) ≡ at 10140
  pub too_long : planned 61 1 10079 two ≡ never
  -- "A window touching another is not joined to it", the week's end and its start neither
  pub touching : planned 15 1 0 (0 ∷ 10 ∷ 10 ∷ 20 ∷ 30 ∷ 45 ∷ []) ≡ at 30
  pub midnight : planned 15 1 10070 (0 ∷ 10 ∷ 30 ∷ 45 ∷ 10070 ∷ 10080 ∷ []) ≡ at 10110
  pub whole_week : planned 10080 1 10000 (0 ∷ 10080 ∷ []) ≡ at 10080
  -- an unknown volume, once neither refusal holds
  pub not_known : planned 0 1 0 two ≡ unknown
  pub not_known_34 : planned 0 0 0 two ≡ refuses 34
  pub not_known_35 : planned 0 1 0 (5 ∷ 5 ∷ []) ≡ refuses 35
  -- 34: the flow, the minute, the 33rd window; before 35
  pub flow_most : planned 1 1000000 0 two ≡ at 60
  pub flow_more : planned 1 1000001 0 two ≡ refuses 34
  pub minute_most : planned 1 1 10079 two ≡ at 10140
  pub minute_more : planned 1 1 10080 two ≡ refuses 34
  pub windows_33 : planned 1 1 0 (replicate 66 0) ≡ refuses 34
  pub windows_32 : planned 1 1 0 (replicate 64 0) ≡ refuses 35
  -- 35: no minute; past the week; before the previous end; a start without an end
  pub empty : planned 1 1 0 (7 ∷ 7 ∷ []) ≡ refuses 35
  pub past_week : planned 1 1 0 (7 ∷ 10081 ∷ []) ≡ refuses 35
  pub overlap : planned 1 1 0 (0 ∷ 10 ∷ 9 ∷ 20 ∷ []) ≡ refuses 35
  pub odd : planned 1 1 0 (60 ∷ 120 ∷ 200 ∷ []) ≡ refuses 35
