-- What the theorems say of the planner's answer.
use Rattle.std.specs.Prelude.{◌≡◌, ◌⊎◌, ℕ, ◌+◌, ◌*◌, ◌≤◌, ◌<◌}
use mathlib.Core.List.{List, Memᴰ as Mem}
use Rattle.planner.specs.Numbers.{week}
use Rattle.planner.specs.Windows.{Window}
use Rattle.planner.specs.Planning.{at, never, transit, plan}

-- "their quotient rounded up": so many minutes let the volume through, and fewer do not
pub record RoundedUp (volume flow minutes : ℕ) : Type 0 where
  pub enough : volume ≤ minutes * flow
  pub least : (k : ℕ) → volume ≤ k * flow → minutes ≤ k

-- each of so many minutes from this minute on is one of window w, in the week that begins at minute `weekStart`: "start inside and end
-- outside"
abbrev pub LiesInside : ℕ → ℕ → ℕ → Window → Type 0
LiesInside weekStart minutes minute w =
    (j : ℕ) → minute ≤ j → j < minute + minutes → (weekStart + w.start ≤ j) × (j < weekStart + w.end)

-- they lie inside one window of this week or of the next
abbrev pub LiesInOne : List Window → ℕ → ℕ → Type 0
LiesInOne ws minutes minute =
    (w : Window) × (Mem w ws × (LiesInside 0 minutes minute w ⊎ LiesInside week minutes minute w))

-- "no window is that long"
abbrev pub NoneLong : List Window → ℕ → Type 0
NoneLong ws minutes = (w : Window) → Mem w ws → w.end < w.start + minutes

-- m is "the first minute at or after a given one, this week or the next .., from which the whole transit lies inside one window"
pub record IsFirst (ws : List Window) (minutes given m : ℕ) : Type 0 where
  pub from : given ≤ m
  pub in_two_weeks : m < 2 * week
  pub lies : LiesInOne ws minutes m
  pub least : (j : ℕ) → given ≤ j → j < m → LiesInOne ws minutes j → ⊥

-- of an answer to a known volume, where no refusal holds
pub record PlanIsRight (volume flow given : ℕ) (ws : List Window) : Type 0 where
  pub rounded : RoundedUp volume flow (transit volume flow)
  pub first : (m : ℕ) → plan volume flow given ws ≡ at m → IsFirst ws (transit volume flow) given m
  -- "or "none" exactly if no window is that long"
  pub never_if : plan volume flow given ws ≡ never → NoneLong ws (transit volume flow)
  pub never_only_if : NoneLong ws (transit volume flow) → plan volume flow given ws ≡ never
  pub no_other : ((m : ℕ) × (plan volume flow given ws ≡ at m)) ⊎ (plan volume flow given ws ≡ never)
