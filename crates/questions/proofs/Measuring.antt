-- The ways out of a measurement, and that over the tables of a register it is what distance is defined to answer.
use mathlib.Core.Path.{◌≡◌}
use Prim.Native.Nat.{ℕ, ◌≤◌, ◌<◌}
use mathlib.Core.Bool.{and-false}
use mathlib.Core.List.{[]}
use borrow.Author.Tests.{lt-ltb, le-ltb}
use lib.Dec.{ltb}
use Rattle.model.specs.Distance.{Distance, distance}
use Rattle.model.specs.Queries.{Reply, measure, measured, refuses}
use Rattle.model.specs.Register.{Register}
use Rattle.model.specs.Tables.{Tables, Counts, counts_of, stored_edges, tables_of}
use Rattle.model.specs.Calls.{answer, answers, measuring}
use Rattle.theory.proofs.Registers.OnlyHeld.{held_counts, held_tables}
use Rattle.model.proofs.Registers.ReadBack.{edges_read}
use Rattle.questions.specs.Measure.{measure_in}
use Rattle.questions.proofs.Answers.{Answers}

module _ (t : Tables) (c : Counts) (v w : ℕ) where
  -- a vertex that is not landed: 5; else the distance over the tables' edges
  pub measure_first : c.vertices ≤ v → refuses 5 ≡ measure_in t c v w
  unfolding measure_in
  measure_first h = rw (le-ltb v c.vertices h)

  pub measure_second : c.vertices ≤ w → refuses 5 ≡ measure_in t c v w
  unfolding measure_in
  measure_second h = rw (le-ltb w c.vertices h, and-false (ltb v c.vertices))

  pub measure_landed : (d : Distance) → v < c.vertices → w < c.vertices → d ≡ distance (stored_edges t c.edges) v w → measured d ≡ measure_in t c v w
  unfolding measure_in
  measure_landed d h k q = rw (lt-ltb v c.vertices h, lt-ltb w c.vertices k, q)

-- over a register's tables that is what `measure` says
pub measure_agrees : (r : Register) (v w : ℕ) → measure_in (tables_of r) (counts_of r) v w ≡ measure r v w
unfolding measure_in measure counts_of
measure_agrees r v w = rw (edges_read r)

-- a measurement over the tables of a register is answered
pub measure_answers : (t : Tables) (c : Counts) (v w : ℕ) (a : Reply) → a ≡ measure_in t c v w → Answers (measuring v w) t c [] a
unfolding answer answers
measure_answers t c v w a q s k =
    let r = s.register in
    let f : measure_in t c v w ≡ measure r v w = rw (held_tables k, held_counts k) at (measure_agrees r v w) in
    rw (q, f)
