-- What the theorems on houses speak of beyond the definitions: a house that is left as it was, a removal and its report, replies that turn a
-- pipe away for the limit, fetches from an opened sheet.
use Rattle.std.specs.Prelude.{◌≡◌, ◌≢◌, ◌⊎◌, ℕ, ◌+◌, ◌<◌, length, get_or}
use mathlib.Core.List.{List, [], ◌∷◌, map, Memᴰ as Mem}
use Rattle.model.specs.Basics.{up_to}
use Rattle.model.specs.Register.{Register, Terms, landed, offers, declines}
use Rattle.model.specs.Format.{Stop, whole, stopped}
use Rattle.model.specs.Queries.{OpenSheet, Reply, read, found, measured, listed, wrote, quoted, committed, opened, fetched, finished, reported, allotted, refuses}
use Rattle.model.specs.Tables.{Tables, grow_from}
use Rattle.model.specs.Notions.{Reachable, Rising, history, next_sheet}
use Rattle.nursery.specs.Licence.{houses}
use Rattle.nursery.specs.Removal.{Change, without, landed_anew}
use Rattle.nursery.specs.Nursery.{Nursery, stored_in, removals_in, register_in}
use Rattle.nursery.specs.Calls.{in_house, fetches}
use Rattle.nursery.specs.Series.{Made, Site, makes, series}

-- ---- houses

-- house g is as it was, and so are the shares
pub record Untouched (g : ℕ) (n n' : Nursery) : Type 0 where
  pub stored_same : stored_in g n' ≡ stored_in g n
  pub removals_same : removals_in g n' ≡ removals_in g n
  pub shares_same : n'.shares ≡ n.shares

-- a pipe is turned away for the limit: with 36, or with 23
abbrev pub ForLimit : ℕ → Type 0
ForLimit x = (x ≡ 36) ⊎ (x ≡ 23)

abbrev pub LimitStops : Stop → Type 0
LimitStops whole = ⊥
LimitStops (stopped k x) = ForLimit x

abbrev pub LimitDeclines : Terms → Type 0
LimitDeclines (offers c n) = ⊥
LimitDeclines (declines x) = ForLimit x

-- by a stop in a list, inside a quote, or by a commit
abbrev pub TurnedAway : Reply → Type 0
TurnedAway (read k) = LimitStops k
TurnedAway (found name v low high) = ⊥
TurnedAway (measured l) = ⊥
TurnedAway (listed n) = ⊥
TurnedAway (wrote n) = ⊥
TurnedAway (quoted q) = LimitDeclines q.terms
TurnedAway committed = ⊥
TurnedAway (opened s) = ⊥
TurnedAway (fetched ns s) = ⊥
TurnedAway (finished s) = ⊥
TurnedAway (reported n) = ⊥
TurnedAway allotted = ⊥
TurnedAway (refuses x) = ForLimit x

-- ---- removals

-- "exactly the fittings whose tags differ are reported with old tag and new tag (0 for none), by rising fitting, each just one time": of the
-- labels before and after
pub record Report (olds news : List ℕ) (cs : List Change) : Type 0 where
  pub rising : Rising (map (λ (c : Change). c.vertex) cs)
  pub each_differs : (c : Change) → Mem c cs
      → (c.vertex < length olds) × (c.old ≡ get_or olds c.vertex 0) × (c.new ≡ get_or news c.vertex 0) × (c.old ≢ c.new)
  pub all_that_differ : (v : ℕ) → v < length olds → get_or olds v 0 ≢ get_or news v 0 → Mem v (map (λ (c : Change). c.vertex) cs)

-- "The register must then be what landing the remaining pipes in order from empty leaves, with the re-hung total of that landing": r' is left of
-- r without edge d. The landings counted anew are those by which it is reached.
pub record TakenOut (r : Register) (d : ℕ) (r' : Register) (cs : List Change) : Type 0 where
  pub was_there : d < length r.edges
  pub grown : grow_from r.vertices (without d r.edges) ≡ landed r'
  pub reachable : Reachable r'
  pub counted_anew : history reachable ≡ landed_anew r.vertices (without d r.edges)
  pub vertices_stay : r'.vertices ≡ r.vertices
  pub edges_are : r'.edges ≡ without d r.edges
  pub one_less : length r'.edges + 1 ≡ length r.edges
  pub told : Report r.labels r'.labels cs

-- ---- opened sheets

-- the registers that a nursery holds, its counts of removals and its shares
unfoldable pub site_of : Nursery → Site
site_of n = record { registers = map (λ (h : ℕ). register_in h n) (up_to houses); removals = n.removals; shares = n.shares }

-- a fetch with the scratch lent to it, and before it any calls since the last one: for its own house, for others, and of shares
pub record Fetch : Type 0 where
  pub before : List Made
  pub scratch : Tables

-- what these fetches answer in house h, one after the other, each from the sheet that the last one gave
unfoldable pub fetched_by : ℕ → List Fetch → Nursery → OpenSheet → List Reply
fetched_by h [] n s = []
fetched_by h (f ∷ fs) n s =
    let o = makes (record { call = in_house h (fetches s); scratch = f.scratch }) (series f.before n) in
    o.reply ∷ fetched_by h fs o.lent.nursery (next_sheet s o.reply)
