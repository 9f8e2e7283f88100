-- The distances that the search begins with, and the answer that it ends with.
use Rattle.counters.specs.declared.numbers.Millimetres.{Millimetres}
use Rattle.std.specs.Prelude.{Option}
use mathlib.Core.Path.{◌≡◌, ap, ◌∙◌}
use mathlib.Core.Logic.{◌≢◌}
use Prim.Native.Nat.{ℕ, ◌≤◌, ◌<◌}
use native.Mathlib.Decide.{ℕ_discrete, dec_lt}
use native.Mathlib.Omega.{arith}
use mathlib.Core.List.{List, []}
use lib.ListN.{length, get_or, set, replicate, length-set, length-replicate}
use lib.Seq.{get_or-set_same, get_or-set_other}
use Rattle.std.proofs.lemmas.List.{get_or-replicate}
use Rattle.model.specs.Basics.{max_vertices}
use Rattle.model.specs.Distance.{Way, IsDistance, joined, not_joined, distance}
use Rattle.model.specs.Tables.{stored_edges}
use Rattle.model.proofs.Distances.Distance.{only_distance}
use Rattle.tables.specs.Meaning.{tables}
use Rattle.tables.specs.Steps.{edges_of}
use Rattle.search.specs.Meaning.{as_distance}
use Rattle.relaxing.specs.Distances.{unreached, Searchable, Reason, is_goal, Grounded, Settled}
use Rattle.search.specs.Search.{Started}
use Rattle.relaxing.proofs.Edges.{distance_only}
use Rattle.relaxing.proofs.Settled.{settled_joined, settled_none}

-- a table with `unreached` everywhere and 0 at the goal is how a search starts
pub filled_but : (distances distances' : List ℕ) (goal n : ℕ) → goal < n → distances ≡ replicate n unreached → distances' ≡ set distances goal 0 → Started distances' goal
filled_but distances distances' goal n l f q =
    let r : length distances ≡ n = ap length f ∙ length-replicate n unreached in
    rw q (record {
      others = λ k c o. get_or-set_other distances goal k 0 0 o ∙ rw f (get_or-replicate n k unreached 0 (omega (arith, c, length-set distances goal 0)));
      at_goal = get_or-set_same distances goal 0 0 (omega (arith, r));
    })

module _ (ends lengths : List ℕ) (m goal : ℕ) where
  -- the distances at the start are grounded
  pub started : {n : ℕ} (distances : List ℕ) → Searchable ends lengths m → max_vertices ≤ n → length distances ≡ n → Started distances goal
      → Grounded ends lengths m goal distances
  started distances h b k s = record {
    bounded = record { searchable = h; room = omega arith; top = λ v l. top' v l (ℕ_discrete v goal) };
    at_goal = s.at_goal;
    reason = λ v l r. reason' v l r (ℕ_discrete v goal);
  }
    where
      far : (v : ℕ) → v < max_vertices → v ≢ goal → get_or distances v 0 ≡ unreached
      far v l q = s.others v (omega arith) q

      top' : (v : ℕ) → v < max_vertices → Dec (v ≡ goal) → get_or distances v 0 ≤ unreached
      top' v l (yes q) = rw q (omega (arith, s.at_goal))
      top' v l (no q) = omega (arith, far v l q)

      reason' : (v : ℕ) → v < max_vertices → get_or distances v 0 < unreached → Dec (v ≡ goal) → Reason ends lengths m goal distances v
      reason' v l r (yes q) = is_goal q
      reason' v l r (no q) = absurd (omega (arith, far v l q))

  -- settled distances are the model's
  pub answers : (from : ℕ) (distances distances' : List ℕ) (d : ℕ) (r : Option Millimetres) → from < max_vertices → goal < max_vertices → Grounded ends lengths m goal distances
      → Settled ends lengths m from distances distances' → d ≡ get_or distances' from 0 → (d < unreached → as_distance r ≡ joined d) × (unreached ≤ d → as_distance r ≡ not_joined)
      → (degrees sides volumes labels : List ℕ) → as_distance r ≡ distance (stored_edges (tables degrees sides ends lengths volumes labels) m) from goal
  answers from distances distances' d r l l' g s q c degrees sides volumes labels =
      rw (distance_only degrees sides ends lengths volumes labels m from goal) (only_distance (edges_of ends lengths [] m) from goal (as_distance r) (go (dec_lt d unreached)))
    where
      g' : Grounded ends lengths m goal distances'
      g' = s.keeps.grounded goal g

      go : Dec (d < unreached) → IsDistance (λ (k : ℕ). Way (edges_of ends lengths [] m) from goal k) (as_distance r)
      go (yes b) = rw (c.0 b, q) (settled_joined ends lengths m goal from distances' g' s.still l (omega arith))
      go (no b) = rw (c.1 (omega arith)) (settled_none ends lengths m goal from distances' g' s.still l' (omega arith))
