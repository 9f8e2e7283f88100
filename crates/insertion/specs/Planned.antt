-- An edge into the six tables as planned.
use Rattle.std.specs.Prelude.{Bool, ◌||◌, set}
use Rattle.model.specs.Graph.{Edge}
use Rattle.model.specs.Tables.{Tables, Counts}
use Rattle.counters.specs.Answers.{counts}
use Rattle.tables.specs.Meaning.{tables}
use Rattle.tables.specs.Steps.{set_pair, more16, sum32}
use Rattle.placement.specs.Planning.{planned_in}
use Rattle.placement.specs.declared.planning.Plan.{Plan}
use Rattle.insertion.specs.Insertion.{LandingIn, landing_in, done}

-- an edge that passed refusals 5, 6, 7, 31, 23 and 36, placed as planned and written down; rings: a ring may stand
unfoldable pub insert_planned : Plan → Tables → Counts → Bool → Edge → LandingIn
insert_planned plan t c rings e =
    let new = c.edges in
    let p = planned_in plan t.degrees t.sides t.ends t.labels c.blocks e.first e.second new in
    landing_in
    (tables p.degrees p.sides (set_pair t.ends new e.first e.second) (set t.lengths new e.len)
    (set t.volumes new e.volume) p.labels)
    (done (counts c.vertices (more16 new) p.blocks (sum32 c.relabellings p.relabellings)) (rings || p.ring))
