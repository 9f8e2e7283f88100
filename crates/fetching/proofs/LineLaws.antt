-- The ways out of the pass for a row, and of the fetch.
use mathlib.Core.Path.{◌≡◌, refl, sym, ap, ◌∙◌}
use Prim.Native.Nat.{ℕ, zero, suc, ◌+◌, ◌-◌, ◌≤◌, ◌<◌}
use native.Mathlib.Numerals.{sub-one}
use native.Mathlib.Omega.{arith}
use mathlib.Core.Bool.{Bool}
use mathlib.Core.List.{List, [], ◌∷◌, ◌++◌, map}
use mathlib.Core.Option.{Option}
use lib.ListN.{length, get_or, replicate}
use borrow.Author.Tests.{le-ltb, lt-ltb}
use Rattle.model.specs.Basics.{max_edges}
use Rattle.model.specs.Queries.{OpenSheet, Reply, fetched, finished, refuses}
use Rattle.model.specs.Opened.{fetch_line, line_at, moved_on}
use Rattle.model.specs.Tables.{Counts, Tables}
use Rattle.counters.specs.Answers.{counts}
use Rattle.insertion.specs.Insertion.{AnswerIn, LandingIn, done, landing_in, refused_in}
use Rattle.chains.specs.Chains.{mark_chain_in, names_in, row_in, rows_in, sheet_in, sweep_in}
use Rattle.chains.proofs.NameLaws.{sweep_start, sweep_on, sweep_end}
use Rattle.holding.specs.Replay.{regrow_in}
use Rattle.fetching.specs.Fetching.{fetch_in, line_on}
use Rattle.fetching.specs.Meaning.{open_sheet}

module _ (ds ss es ls vs : List ℕ) (n : ℕ) where
  abbrev rows : List ℕ → List (List ℕ)
  rows = rows_in ds ss es ls vs n

  -- at the start the lines of all chains are left
  pub line_start : (ms : List ℕ) (place : ℕ) → line_at place (rows (sweep_in ds ss es n (n - 0) ms 0)) ≡ line_at place (sheet_in ds ss es ls vs n ms)
  unfolding sheet_in
  line_start ms place = ap (λ (cs : List ℕ). line_at place (rows cs)) (sweep_start ds ss es n ms)

  -- a chain before the place is passed over
  pub line_next : (c : ℕ) (later names : List ℕ) (before : ℕ) → c ∷ later ≡ names → (before ≡ 0 → ⊥)
      → line_at (before - 1) (rows later) ≡ line_at before (rows names)
  unfolding line_at rows_in
  line_next c later names zero e f = absurd (f refl)
  line_next c later names (suc before) e f = rw (← e, sub-one)

  module _ (vertices removals place before : ℕ) (names : List ℕ) (line : Option (List ℕ)) (left : line_at before (rows names) ≡ line) where
    -- the chain of edge c is the one at the place
    pub left_here : (c : ℕ) (later row : List ℕ) → c ∷ later ≡ names → before ≡ 0 → row ≡ row_in ds ss es ls vs n c
        → fetched row (open_sheet vertices n (place + 1) removals) ≡ fetch_line (open_sheet vertices n place removals) line
    unfolding fetch_line moved_on line_at rows_in
    left_here c later row e z q = rw (← left, ← e, z, q)

    -- all chains are passed over
    pub left_past : [] ≡ names → finished (open_sheet vertices n place removals) ≡ fetch_line (open_sheet vertices n place removals) line
    unfolding fetch_line line_at rows_in
    left_past e = rw (← left, ← e)

-- At edge e, which has no mark: the names before it, and all names are those and what is still to be found.
pub record Sweeps (ds ss es : List ℕ) (n : ℕ) (ms₀ : List ℕ) (e : ℕ) (ms found : List ℕ) : Type 0 where
  pub few : length found ≤ e
  pub within : e ≤ n
  pub unmarked : e < n → get_or ms e 0 ≡ 0
  pub as_long : length ms ≡ length ms₀
  pub whole : found ++ sweep_in ds ss es n (n - e) ms e ≡ names_in ds ss es n ms₀

-- the line behind those that were passed over
line_behind : (f : ℕ → List ℕ) (found rest : List ℕ) (before : ℕ) → line_at before (map f rest) ≡ line_at (length found + before) (map f (found ++ rest))
unfolding line_at
line_behind f [] rest before =
    let k : before ≡ 0 + before = omega arith in
    ap (λ (m : ℕ). line_at m (map f rest)) k
line_behind f (d ∷ found) rest before =
    let k : suc (length found + before) ≡ suc (length found) + before = omega arith in
    line_behind f found rest before ∙ ap (λ (m : ℕ). line_at m (map f ((d ∷ found) ++ rest))) k

module _ (ds ss es ls vs : List ℕ) (n : ℕ) (ms₀ : List ℕ) (e : ℕ) (ms found : List ℕ) (s : Sweeps ds ss es n ms₀ e ms found)
    (vertices removals place before : ℕ) (past : length found + before ≡ place) where
  abbrev sheet : List (List ℕ)
  sheet = sheet_in ds ss es ls vs n ms₀

  abbrev names : List ℕ
  names = sweep_in ds ss es n (n - e) ms e

  -- the line at the place is the one behind as many of those left
  behind : line_at before (rows_in ds ss es ls vs n names) ≡ line_at place sheet
  unfolding sheet_in rows_in
  behind =
      let f : ℕ → List ℕ = row_in ds ss es ls vs n in
      line_behind f found names before ∙ ap (λ (cs : List ℕ). line_at (length found + before) (map f cs)) s.whole ∙ ap (λ (m : ℕ). line_at m sheet) past

  -- the chain of edge e is the one at the place
  pub line_here : (row : List ℕ) → e < n → before ≡ 0 → row ≡ row_in ds ss es ls vs n e
      → fetched row (open_sheet vertices n (place + 1) removals) ≡ fetch_line (open_sheet vertices n place removals) (line_at place sheet)
  line_here row h z q =
      let one = sweep_on ds ss es n e ms (mark_chain_in ds ss es n ms e) h (s.unmarked h) refl in
      left_here ds ss es ls vs n vertices removals place before names (line_at place sheet) behind e _ row one z q

  -- all chains are passed over
  pub line_past : n ≤ e → finished (open_sheet vertices n place removals) ≡ fetch_line (open_sheet vertices n place removals) (line_at place sheet)
  line_past h =
      left_past ds ss es ls vs n vertices removals place before names (line_at place sheet) behind (sweep_end ds ss es n e ms h)

-- ---- 33, and the line behind it

module _ (ends lengths volumes : List ℕ) (c : Counts) (s : OpenSheet) (t : Tables) where
  -- fewer vertices than at the opening: 33
  pub more_vertices : c.vertices < s.vertices → refuses 33 ≡ fetch_in ends lengths volumes c s t
  unfolding fetch_in
  more_vertices h = rw (lt-ltb c.vertices s.vertices h)

  module _ (v : s.vertices ≤ c.vertices) where
    -- fewer edges than at the opening: 33
    pub more_edges : c.edges < s.edges → refuses 33 ≡ fetch_in ends lengths volumes c s t
    unfolding fetch_in
    more_edges h = rw (le-ltb c.vertices s.vertices v, lt-ltb c.edges s.edges h)

    module _ (e : s.edges ≤ c.edges) (t' : Tables) (answer : AnswerIn)
        (q : landing_in t' answer ≡ regrow_in ends lengths volumes (counts s.vertices s.edges 0 0) t) where
      answered : line_on s t' answer ≡ fetch_in ends lengths volumes c s t
      unfolding fetch_in
      answered =
          rw (le-ltb c.vertices s.vertices v, le-ltb c.edges s.edges e) (ap (λ (l : LandingIn). line_on s l.tables l.answer) q)

      -- the edges of the opening do not land on its vertices: 33
      pub edge_beyond : (x : ℕ) → answer ≡ refused_in x → refuses 33 ≡ fetch_in ends lengths volumes c s t
      edge_beyond x w = sym (ap (line_on s t') w) ∙ answered

      -- the edges of the opening land: the line at the place is answered
      pub line_landed : (c' : Counts) (rings : Bool) (u : Tables) (a : Reply) → answer ≡ done c' rings → u ≡ t'
          → a ≡ fetch_line s (line_at s.place (sheet_in u.degrees u.sides u.ends u.lengths u.volumes s.edges (replicate max_edges 0)))
          → a ≡ fetch_in ends lengths volumes c s t
      line_landed c' rings u a w k h = (rw k at h) ∙ sym (ap (line_on s t') w) ∙ answered
