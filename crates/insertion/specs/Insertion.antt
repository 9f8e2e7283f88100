-- One vertex or one edge into the six tables: what it leaves and its answer.
use Rattle.std.specs.Prelude.{ℕ, Bool, ◌||◌, set, leb, if◌then◌else◌}
use Rattle.model.specs.Basics.{max_vertices}
use Rattle.model.specs.Graph.{Edge}
use Rattle.model.specs.Tables.{Tables, Counts}
use Rattle.counters.specs.Answers.{counts}
use Rattle.tables.specs.Meaning.{tables}
use Rattle.tables.specs.Steps.{set_pair, more16, sum32}
use Rattle.checking.specs.Checks.{CheckIn, check_in, passed, failed}
use Rattle.placement.specs.Placing.{placed_by}

-- the counts after a landing and whether a ring may stand then, or its refusal
pub data AnswerIn : Type 0 where
  done : Counts → Bool → AnswerIn
  refused_in : ℕ → AnswerIn

-- what a landing leaves in the tables, and its answer
pub record LandingIn : Type 0 where
  pub tables : Tables
  pub answer : AnswerIn

abbrev pub landing_in : Tables → AnswerIn → LandingIn
landing_in t a = record { tables = t; answer = a }

-- a vertex changes the counts alone
unfoldable pub land_vertex_in : Counts → Bool → AnswerIn
land_vertex_in c rings =
    if leb max_vertices c.vertices then refused_in 22
    else done (counts (more16 c.vertices) c.edges c.blocks c.relabellings) rings

-- an edge that passed refusals 5, 6, 7, 31, 23 and 36; rings: a ring may stand
unfoldable pub insert_in : Tables → Counts → Bool → Edge → LandingIn
insert_in t c rings e =
    let new = c.edges in
    let p = placed_by t c rings e in
    landing_in
    (tables p.degrees p.sides (set_pair t.ends new e.first e.second) (set t.lengths new e.len)
    (set t.volumes new e.volume) p.labels)
    (done (counts c.vertices (more16 new) p.blocks (sum32 c.relabellings p.relabellings)) (rings || p.ring))

-- what landing comes to, once the edge was checked; a refused edge leaves the tables
abbrev pub land_checked : Tables → Counts → Bool → Edge → CheckIn → LandingIn
land_checked t c rings e (passed a b n v) = insert_in t c rings (record { first = a; second = b; len = n; volume = v })
land_checked t c rings e (failed x) = landing_in t (refused_in x)

-- the register may not pass `limit` edges
unfoldable pub land_in : Tables → Counts → ℕ → Bool → Edge → LandingIn
land_in t c limit rings e = land_checked t c rings e (check_in c limit e)
