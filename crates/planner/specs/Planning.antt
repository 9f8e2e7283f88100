-- Document 02, S-8: the first minute, by trying one minute after the other; the refusals in their order.
use Rattle.std.specs.Prelude.{ℕ, zero, suc, ◌+◌, ◌-◌, ◌*◌, ◌/◌, Bool, true, false, not, ◌&&◌, ◌||◌, List, [], ◌∷◌, length, eqb, leb, ltb, if◌then◌else◌}
use Rattle.std.proofs.Math.Option.{Option, none, some}
use Rattle.planner.specs.Numbers.{week, max_flow, max_windows}
use Rattle.planner.specs.Windows.{Window, ordered}

-- "transit is their quotient rounded up", in minutes
unfoldable pub transit : ℕ → ℕ → ℕ
transit volume flow = (volume + (flow - 1)) / flow

-- so many minutes from this minute on lie inside the window of the week that begins at minute `weekStart`: "start inside and end outside"
unfoldable pub inside : ℕ → ℕ → ℕ → Window → Bool
inside weekStart minutes minute w = leb (weekStart + w.start) minute && leb (minute + minutes) (weekStart + w.end)

-- "inside one window" of that week: "A window touching another is not joined to it"
unfoldable pub inside_one : ℕ → ℕ → ℕ → List Window → Bool
inside_one weekStart minutes minute [] = false
inside_one weekStart minutes minute (w ∷ ws) = inside weekStart minutes minute w || inside_one weekStart minutes minute ws

-- the first of the k numbers from n on that passes a test
unfoldable pub first_of : (ℕ → Bool) → ℕ → ℕ → Option ℕ
first_of test zero n = none
first_of test (suc k) n = elim (test n) [ true ↦ some n | false ↦ first_of test k (suc n) ]

-- "this week or the next (its minutes counted on from 10,080)"
unfoldable pub possible_at : List Window → ℕ → ℕ → Bool
possible_at ws minutes minute = inside_one 0 minutes minute ws || inside_one week minutes minute ws

-- "the first minute at or after a given one, this week or the next .., from which the whole transit lies inside one window"
unfoldable pub earliest : List Window → ℕ → ℕ → Option ℕ
earliest ws minutes given = first_of (possible_at ws minutes) (2 * week - given) given

-- what the planner answers; `never` is "none"
pub data Reply : Type 0 where
  at : ℕ → Reply
  never : Reply
  unknown : Reply
  refuses : ℕ → Reply

abbrev pub reply_of : Option ℕ → Reply
reply_of (some m) = at m
reply_of none = never

-- "a flow out of bounds, a given minute above 10,079 or more than 32 windows"
unfoldable pub out_of_bounds : ℕ → ℕ → List Window → Bool
out_of_bounds flow given ws = ltb flow 1 || (ltb max_flow flow || (ltb (week - 1) given || ltb max_windows (length ws)))

-- "34 ..; 35 .., after 34", of all windows; "An unknown volume is answered "unknown", once neither refusal holds": 0 stands for it
unfoldable pub plan : ℕ → ℕ → ℕ → List Window → Reply
plan volume flow given ws =
    if out_of_bounds flow given ws then refuses 34
    else if not (ordered 0 ws) then refuses 35
    else if eqb volume 0 then unknown
    else reply_of (earliest ws (transit volume flow) given)
