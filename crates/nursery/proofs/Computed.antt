-- Six series, computed: what their calls alone settle.
use mathlib.Core.Path.{◌≡◌, refl}
use Prim.Native.Nat.{ℕ, zero, suc, ◌+◌}
use mathlib.Core.List.{List, [], ◌∷◌, ◌++◌}
use lib.ListN.{length, replicate}
use Rattle.model.specs.Basics.{floor_log, max_edges, sum}
use Rattle.model.specs.Graph.{Edge}
use Rattle.model.specs.Register.{Quote, Register, declines, empty, offers}
use Rattle.model.specs.Format.{list_of, stopped, whole}
use Rattle.model.specs.Distance.{joined, not_joined}
use Rattle.model.specs.Queries.{Reply, allotted, committed, found, measured, quoted, read, refuses, reported, sheet, sheet_numbers}
use Rattle.model.specs.Tables.{Tables, cleared, counts_of, edge_lengths}
use Rattle.model.specs.Series.{Landing, landed_by, landed_edges, relabelled_by}
use Rattle.model.specs.Notions.{times_relabelled}
use Rattle.model.specs.Values.{edge, fifth, four, house, loop, quote_of, triangle}
use Rattle.nursery.specs.Calls.{Call, HouseCall, commits, effect, finds, finds_at, grows, in_house, lands, measures, quotes, removes, sets_shares}
use Rattle.nursery.specs.Series.{Made, Site, after, after_call, empty_site, house_at, register_at, reply_to, since}
use Rattle.nursery.specs.Values.{eight}
use Rattle.nursery.proofs.Computing.{settling}

-- ---- calls

-- with scratch of the right sizes, and for house 2
unfoldable pub made : Call → Made
made c = record { call = c; scratch = cleared }

unfoldable pub here : HouseCall → Made
here c = made (in_house 2 c)

-- with scratch of the wrong sizes: refusal 25
unfoldable pub none : Tables
none = record { degrees = []; sides = []; ends = []; lengths = []; volumes = []; labels = [] }

unfoldable pub unfit : HouseCall → Made
unfit c = record { call = in_house 2 c; scratch = none }

-- the register of house 2 after a series, the edges that count there, and what a call for it would answer
unfoldable pub left : List Made → Register
left ms = register_at 2 (after ms empty_site)

unfoldable pub counted : List Made → List Landing
counted ms = since 2 ms empty_site []

unfoldable pub answers : List Made → HouseCall → Reply
answers ms c = (effect c (house_at 2 (after ms empty_site))).reply

-- ---- lists that stop, refused calls, clearings in between

-- a list that lands the edge 5-6 and stops at 0-0, before 0-6
unfoldable pub stops : List ℕ
stops = list_of 0 (edge 5 6 100 ∷ edge 0 0 1 ∷ edge 0 6 100 ∷ [])

-- a list that lands the edge 0-1 and stops at an edge without length
unfoldable pub short : List ℕ
short = list_of 2 (edge 0 1 5 ∷ edge 1 0 0 ∷ [])

-- A grow, a grow that stops, and a grow that is the last clearing; a find; the list that stops; then a grow and a land that are refused with 25.
unfoldable pub calls : List Made
calls =
    here (grows loop) ∷ here (grows short) ∷ here (grows house) ∷ here (finds 8194) ∷ here (lands stops) ∷
    unfit (grows loop) ∷ unfit (lands (list_of 0 (edge 0 6 100 ∷ []))) ∷ []

pub record Called : Type 0 where
  pub before_stop : length (landed_by max_edges empty short) ≡ 1
  pub grow_stops : answers [] (grows short) ≡ read (stopped 3 7)
  pub land_stops : answers (here (grows house) ∷ []) (lands stops) ≡ read (stopped 1 6)
  pub accepted : length (counted calls) ≡ 7
  pub lengths : sum (edge_lengths (landed_edges (counted calls))) ≡ 5500
  pub relabelled : relabelled_by (counted calls) ≡ 1
  pub total : (left calls).relabellings ≡ 1
  pub chains : length (sheet (left calls)) ≡ 2
  pub find_8195 : answers calls (finds 8195) ≡ found 2 4 500 1700
  pub find_at_4 : answers calls (finds_at 4) ≡ found 2 4 500 1700
  pub distance : answers calls (measures 0 6) ≡ measured (joined 4200)

-- ---- a ring, and then a tap of it: its edges, its labels and the tap count like any others

unfoldable pub ringed : List Made
ringed = here (grows (triangle 2 0)) ∷ here (finds_at 1) ∷ here (lands (list_of 1 (edge 1 3 8 ∷ []))) ∷ []

pub record Ringed : Type 0 where
  pub ring : sheet_numbers (left (here (grows (triangle 2 0)) ∷ [])) ≡ 0 ∷ 0 ∷ 0 ∷ 3 ∷ 7 ∷ 0 ∷ []
  pub find_at : answers (here (grows (triangle 2 0)) ∷ []) (finds_at 1) ≡ found 0 1 0 7
  pub accepted : length (counted ringed) ≡ 4
  pub lengths : sum (edge_lengths (landed_edges (counted ringed))) ≡ 15
  pub relabelled : relabelled_by (counted ringed) ≡ 2
  pub times : times_relabelled 0 (counted ringed) ≡ 1
  pub chains : length (sheet (left ringed)) ≡ 2
  pub find : answers ringed (finds 16385) ≡ found 0 2 5 2
  pub distance : answers ringed (measures 0 3) ≡ measured (joined 9)

-- ---- a ring that stands at the end, beside a chain; the closing edge is landed by a second list

unfoldable pub standing : List Made
standing = here (grows (list_of 3 (edge 0 1 5 ∷ edge 1 2 5 ∷ []))) ∷ here (finds 8192) ∷ here (lands (list_of 2 (edge 2 0 1 ∷ edge 3 4 7 ∷ []))) ∷ []

pub record Standing : Type 0 where
  pub accepted : length (counted standing) ≡ 4
  pub lengths : sum (edge_lengths (landed_edges (counted standing))) ≡ 18
  pub relabelled : relabelled_by (counted standing) ≡ 0
  pub numbers : sheet_numbers (left standing) ≡ 0 ∷ 0 ∷ 0 ∷ 3 ∷ 11 ∷ 0 ∷ 3 ∷ 3 ∷ 4 ∷ 0 ∷ 7 ∷ 0 ∷ []
  pub chains : length (sheet (left standing)) ≡ 2
  pub find_lowest : answers standing (finds 8191) ≡ found 0 0 0 11
  pub find_highest : answers standing (finds 8193) ≡ found 0 2 0 11
  pub find_at : answers standing (finds_at 1) ≡ found 0 1 0 11
  pub over_closing : answers standing (measures 0 2) ≡ measured (joined 1)
  pub to_chain : answers standing (measures 0 3) ≡ measured not_joined

-- ---- document 02, S-5: the house of document 01, whose last two pipes are committed

-- the quotes of these two, and one of a vertex that is not landed
unfoldable pub fifth_quote : Quote
fifth_quote = quote_of fifth (offers 3 1) 7 4

unfoldable pub sixth_quote : Quote
sixth_quote = quote_of (edge 3 6 900) (offers 5 0) 7 5

unfoldable pub declined_quote : Quote
declined_quote = quote_of (edge 3 7 1200) (declines 5) 7 5

-- A commit that is refused with 25, one that lands, the same again, one whose pipe is refused, one whose count is wrong, and one that lands.
unfoldable pub committing : List Made
committing =
    here (grows four) ∷ here (quotes fifth) ∷ unfit (commits fifth_quote) ∷ here (commits fifth_quote) ∷ here (commits fifth_quote) ∷
    here (commits declined_quote) ∷ here (commits (quote_of (edge 3 6 900) (offers 5 1) 7 5)) ∷ here (commits sixth_quote) ∷ []

pub record Committing : Type 0 where
  pub quote : answers (here (grows four) ∷ []) (quotes fifth) ≡ quoted fifth_quote
  pub commit : answers (here (grows four) ∷ []) (commits fifth_quote) ≡ committed
  pub again : answers committing (commits fifth_quote) ≡ refuses 32
  pub accepted : length (counted committing) ≡ 6
  pub lengths : sum (edge_lengths (landed_edges (counted committing))) ≡ 5400
  pub relabelled : relabelled_by (counted committing) ≡ 1
  pub numbers : sheet_numbers (left committing) ≡ 0 ∷ 0 ∷ 3 ∷ 2 ∷ 3300 ∷ 0 ∷ 2 ∷ 3 ∷ 5 ∷ 1 ∷ 1200 ∷ 0 ∷ 5 ∷ 3 ∷ 6 ∷ 0 ∷ 900 ∷ 0 ∷ []
  pub chains : length (sheet (left committing)) ≡ 3
  pub find_8195 : answers committing (finds 8195) ≡ found 2 4 500 700

-- ---- chains joined two by two, so that many labels change

-- n edges, each from a vertex to the next one, `apart` vertices from edge to edge
unfoldable pub every : ℕ → ℕ → ℕ → List Edge
every at apart zero = []
every at apart (suc n) = edge at (at + 1) 1 ∷ every (at + apart) apart n

-- the line 0-1-..-31: 16 edges, which 8 join to pairs, which 4 join, then 2, then 1
unfoldable pub pairwise : List Made
pairwise = here (grows (list_of 32 (every 0 2 16 ++ every 1 4 8 ++ every 3 8 4 ++ every 7 16 2 ++ every 15 32 1))) ∷ []

pub record Pairwise : Type 0 where
  pub accepted : length (counted pairwise) ≡ 31
  pub relabelled : relabelled_by (counted pairwise) ≡ 34
  pub logarithm : floor_log (length (counted pairwise)) ≡ 4

-- ---- document 02, S-10 and S-11: three houses on one licence, from two of which pipes are taken out

-- eight fittings in a line: seven pipes
unfoldable pub line : List ℕ
line = list_of 8 (every 0 1 7)

unfoldable pub last_of_line : Edge
last_of_line = edge 6 7 1

-- Houses 2 and 7 have shares of 90 and 4,000, so the others have six pipes together.
unfoldable pub shared : List Made
shared =
    made (sets_shares (0 ∷ 0 ∷ 90 ∷ 0 ∷ 0 ∷ 0 ∷ 0 ∷ 4000 ∷ [])) ∷
    here (grows house) ∷
    made (in_house 1 (grows line)) ∷
    made (in_house 1 (quotes last_of_line)) ∷
    made (in_house 1 (commits (quote_of last_of_line (offers 2 0) 8 6))) ∷
    made (in_house 1 (commits (quote_of last_of_line (declines 36) 8 6))) ∷
    made (sets_shares (eight [])) ∷
    here (removes 4 (replicate 8 0)) ∷
    here (removes 4 (replicate 9 0)) ∷
    here (removes 5 (replicate 9 0)) ∷
    here (lands (list_of 0 (edge 2 6 300 ∷ []))) ∷
    made (in_house 8 (grows [])) ∷
    made (in_house 1 (removes 0 (replicate 30 0))) ∷
    made (in_house 1 (lands (list_of 0 (last_of_line ∷ edge 0 1 1 ∷ [])))) ∷ []

-- what these calls are answered, one after the other
unfoldable pub settled : List Made → Site → List Reply
settled [] s = []
settled (m ∷ ms) s = reply_to m s ∷ settled ms (after_call m s)

unfoldable pub shared_replies : List Reply
shared_replies =
    allotted ∷ read whole ∷ read (stopped 14 36) ∷ quoted (quote_of last_of_line (declines 36) 8 6) ∷ refuses 32 ∷ refuses 36 ∷ refuses 37 ∷
    refuses 9 ∷ reported 3 ∷ refuses 38 ∷ read whole ∷ refuses 37 ∷ reported 5 ∷ read (stopped 1 36) ∷ []

pub record Shared : Type 0 where
  pub replies : settled shared empty_site ≡ shared_replies
  -- house 2: the five pipes that remain count as landed anew, and the one that follows; what the removal reported does not count
  pub accepted : length (counted shared) ≡ 6
  pub lengths : sum (edge_lengths (landed_edges (counted shared))) ≡ 5400
  pub relabelled : relabelled_by (counted shared) ≡ 1
  pub head : counts_of (left shared) ≡ record { vertices = 7; edges = 6; blocks = 2; relabellings = 1 }
  pub chains : length (sheet (left shared)) ≡ 1
  pub find : answers shared (finds 16384) ≡ found 0 4 4700 700
  -- house 1: its own pipes alone
  pub other_accepted : length (since 1 shared empty_site []) ≡ 6
  pub other_head : counts_of (register_at 1 (after shared empty_site)) ≡ record { vertices = 8; edges = 6; blocks = 1; relabellings = 0 }
  pub no_others : length (since 0 shared empty_site []) ≡ 0
  pub removals : (after shared empty_site).removals ≡ 0 ∷ 1 ∷ 1 ∷ 0 ∷ 0 ∷ 0 ∷ 0 ∷ 0 ∷ []
  pub shares : (after shared empty_site).shares ≡ 0 ∷ 0 ∷ 90 ∷ 0 ∷ 0 ∷ 0 ∷ 0 ∷ 4000 ∷ []
  -- shares are set only if no house has a fitting, pipes or not
  pub fittings_alone : settled (made (in_house 5 (grows (list_of 1 []))) ∷ made (sets_shares (eight [])) ∷ []) empty_site ≡ read whole ∷ refuses 37 ∷ []
  -- a grow takes its house's count back to 0, and leaves the shares
  pub grown_again : (after (shared ++ (here (grows four) ∷ [])) empty_site).removals ≡ 0 ∷ 1 ∷ 0 ∷ 0 ∷ 0 ∷ 0 ∷ 0 ∷ 0 ∷ []

-- ---- computed

unfoldable pub opened : Unit {0}
unfolding made here none unfit left counted answers stops short calls ringed standing fifth_quote sixth_quote declined_quote committing every pairwise line last_of_line shared settled shared_replies eight
opened = tt

-- the series with lists that stop and calls that are refused
pub called : Called
unfolding settling opened
called =
    record {
      before_stop = refl;
      grow_stops = refl;
      land_stops = refl;
      accepted = refl;
      lengths = refl;
      relabelled = refl;
      total = refl;
      chains = refl;
      find_8195 = refl;
      find_at_4 = refl;
      distance = refl;
    }

-- the series with a ring that is tapped
pub rings : Ringed
unfolding settling opened
rings =
    record {
      ring = refl;
      find_at = refl;
      accepted = refl;
      lengths = refl;
      relabelled = refl;
      times = refl;
      chains = refl;
      find = refl;
      distance = refl;
    }

-- the series with a ring that stands at the end
pub stands : Standing
unfolding settling opened
stands =
    record {
      accepted = refl;
      lengths = refl;
      relabelled = refl;
      numbers = refl;
      chains = refl;
      find_lowest = refl;
      find_highest = refl;
      find_at = refl;
      over_closing = refl;
      to_chain = refl;
    }

-- the series with two edges that are committed
pub commitments : Committing
unfolding settling opened
commitments =
    record {
      quote = refl;
      commit = refl;
      again = refl;
      accepted = refl;
      lengths = refl;
      relabelled = refl;
      numbers = refl;
      chains = refl;
      find_8195 = refl;
    }

-- the series in which many labels change
pub pairs : Pairwise
unfolding settling opened
pairs = record { accepted = refl; relabelled = refl; logarithm = refl }

-- the series of three houses on one licence
pub shares : Shared
unfolding settling opened
shares =
    record {
      replies = refl;
      accepted = refl;
      lengths = refl;
      relabelled = refl;
      head = refl;
      chains = refl;
      find = refl;
      other_accepted = refl;
      other_head = refl;
      no_others = refl;
      removals = refl;
      shares = refl;
      fittings_alone = refl;
      grown_again = refl;
    }
