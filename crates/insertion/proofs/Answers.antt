-- A vertex, and an insertion.
use mathlib.Core.Path.{◌≡◌}
use mathlib.Core.Bool.{Bool, true, false, ◌||◌}
use mathlib.Core.List.{List}
use Prim.Native.Nat.{ℕ, ◌<◌, ◌≤◌}
use borrow.Author.Tests.{le-leb, lt-leb}
use lib.ListN.{set}
use Rattle.model.specs.Basics.{max_vertices}
use Rattle.model.specs.Tables.{Counts}
use Rattle.counters.specs.Answers.{counts}
use Rattle.tables.specs.Meaning.{tables}
use Rattle.tables.specs.Steps.{set_pair, more16, sum32}
use Rattle.placement.specs.Placing.{placed}
use Rattle.placement.specs.Planning.{planned_in}
use Rattle.placement.specs.declared.planning.Plan.{Plan}
use Rattle.insertion.specs.Insertion.{done, refused_in, landing_in, land_vertex_in}
use Rattle.insertion.specs.Planned.{insert_planned}

module _ (c : Counts) (rings : Bool) where
  -- no room for a vertex: 22
  pub vertex_full : max_vertices ≤ c.vertices → refused_in 22 ≡ land_vertex_in c rings
  unfolding land_vertex_in
  vertex_full h = rw (le-leb max_vertices c.vertices h)

  -- room for a vertex: there is one more, and no other count changes
  pub vertex_more : (n : ℕ) → c.vertices < max_vertices → n ≡ more16 c.vertices
      → done (counts n c.edges c.blocks c.relabellings) rings ≡ land_vertex_in c rings
  unfolding land_vertex_in
  vertex_more n h e = rw (lt-leb max_vertices c.vertices h, e)

-- an edge placed as planned and stored behind the others, with the counts raised, is inserted
pub insert_done : (d s ends l u t d' s' t' ends' l' u' : List ℕ) (c : Counts) (rings ring after : Bool) (a b len volume blocks m edges n : ℕ) (by : Plan)
    → placed d' s' t' blocks m ring ≡ planned_in by d s ends t c.blocks a b c.edges → ends' ≡ set_pair ends c.edges a b
    → l' ≡ set l c.edges len → u' ≡ set u c.edges volume → edges ≡ more16 c.edges → n ≡ sum32 c.relabellings m → after ≡ (rings || ring)
    → landing_in (tables d' s' ends' l' u' t') (done (counts c.vertices edges blocks n) after)
    ≡ insert_planned by (tables d s ends l u t) c rings (record { first = a; second = b; len = len; volume = volume })
unfolding insert_planned
insert_done d s ends l u t d' s' t' ends' l' u' c rings ring after a b len volume blocks m edges n by p z x y v w o =
    rw (← p, z, x, y, v, w, o)

-- a ring may stand where one did before, or is closed now
pub ring_before : (rings ring : Bool) → rings ≡ true → rings ≡ (rings || ring)
ring_before rings ring h = rw h

pub ring_now : (rings ring : Bool) → rings ≡ false → ring ≡ (rings || ring)
ring_now rings ring h = rw h
