-- The tables of a register that landing leaves can be searched.
use Prim.Native.Nat.{ℕ, ◌*◌, ◌≤◌}
use native.Mathlib.Omega.{arith}
use mathlib.Core.List.{List}
use lib.ListN.{length, drop, replicate, length-append}
use Rattle.model.specs.Basics.{in_front, max_edges}
use Rattle.model.specs.Register.{Register}
use Rattle.model.specs.Notions.{HeldOf, Reachable}
use Rattle.model.specs.Tables.{Stored, counts_of, edge_lengths, ends_of, padded, stored_of, tables_of}
use Rattle.model.proofs.Registers.ReadBack.{first_read, second_read, length_read, length_ends, length_lengths}
use Rattle.theory.proofs.Registers.Founded.{Founded}
use Rattle.theory.proofs.Registers.Reachable.{founded}
use Rattle.relaxing.specs.Distances.{Searchable}
use Rattle.questions.specs.Measure.{Measurable}

padded_long : (n : ℕ) (xs : List ℕ) → length xs ≤ length (padded n xs)
unfolding padded in_front
padded_long n xs = omega (arith, length-append xs (drop (length xs) (replicate n 0)))

searchable : (r : Register) → Reachable r → Searchable (tables_of r).ends (tables_of r).lengths (length r.edges)
unfolding tables_of
searchable r k =
    let kept : Founded r = founded r k in
    record {
      few = kept.room;
      ends_room = omega (arith, padded_long (2 * max_edges) (ends_of r.edges), length_ends r.edges);
      lengths_room = omega (arith, padded_long max_edges (edge_lengths r.edges), length_lengths r.edges);
      firsts = λ d l. omega (arith, first_read r d l, (kept.lawful d l).first_landed, kept.few);
      seconds = λ d l. omega (arith, second_read r d l, (kept.lawful d l).second_landed, kept.few);
      short = λ d l. omega (arith, length_read r d l, (kept.lawful d l).most_length);
      long = λ d l. omega (arith, length_read r d l, (kept.lawful d l).some_length);
    }

-- tables that hold a register can be searched for a distance
pub measurable : {s : Stored} {r : Register} → HeldOf s r → Measurable s.tables.ends s.tables.lengths s.counts
unfolding stored_of counts_of
measurable {r = r} h = rw h.stored_is (searchable r h.reachable, (founded r h.reachable).few)
