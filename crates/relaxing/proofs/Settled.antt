-- Distances that are grounded and that no edge lowers are the distances to the goal.
use mathlib.Core.Path.{◌≡◌, refl, ap}
use Prim.Native.Nat.{ℕ, zero, suc, ◌+◌, ◌*◌, ◌≤◌, ◌<◌, min}
use native.Mathlib.Nat.{not-suc-le-zero}
use native.Mathlib.Omega.{arith}
use mathlib.Core.List.{List, []}
use lib.ListN.{get_or}
use Rattle.model.specs.Basics.{max_vertices, max_length}
use Rattle.model.specs.Graph.{Edge, edge_at, length_at}
use Rattle.model.specs.Distance.{Joins, forth, back, Way, here, along, Least}
use Rattle.model.specs.Tables.{stored_edge}
use Rattle.tables.specs.Steps.{edge_of, edges_of}
use Rattle.relaxing.specs.Distances.{unreached, Reason, is_goal, over, Grounded, Still}
use Rattle.relaxing.proofs.Counting.{belows, belows_le, belows_more}
use Rattle.relaxing.proofs.Edges.{edges_length, edges_at_lem, ends_below}

way_here : (es : List Edge) (v w d : ℕ) → v ≡ w → d ≡ 0 → Way es v w d
way_here es v w d p q = rw (p, q) here

module _ (ends lengths : List ℕ) (m goal from : ℕ) (distances : List ℕ) (g : Grounded ends lengths m goal distances)
    (still : (e : ℕ) → e < m → Still ends lengths distances (get_or distances from 0) e) where
  -- along an edge the distance falls by no more than its length
  step : (e v u : ℕ) → e < m → Joins (edge_of ends lengths [] e) v u → min (get_or distances from 0) (get_or distances v 0) ≤ get_or lengths e 0 + get_or distances u 0
  unfolding stored_edge
  step e v u l (forth p q) = rw (← p, ← q) (still e l).first
  step e v u l (back p q) = rw (← p, ← q) (still e l).second

  at_end : (v : ℕ) → v ≡ goal → get_or distances v 0 ≡ 0
  at_end v q = rw q g.at_goal

  -- an edge of the list is that of the tables
  joins : (e v u : ℕ) → e < m → Joins (edge_of ends lengths [] e) v u → Joins (edge_at (edges_of ends lengths [] m) e) v u
  joins e v u l j = rw (edges_at_lem ends lengths m e l) j

  joined' : (e v u : ℕ) → e < m → Joins (edge_at (edges_of ends lengths [] m) e) v u → Joins (edge_of ends lengths [] e) v u
  joined' e v u l j = rw (edges_at_lem ends lengths m e l) at j

  len_at : (e : ℕ) → e < m → length_at (edges_of ends lengths [] m) e ≡ get_or lengths e 0
  unfolding length_at stored_edge
  len_at e l = ap (λ (p : Edge). p.len) (edges_at_lem ends lengths m e l)

  way_along : (e v u w d x : ℕ) → e < m → Joins (edge_of ends lengths [] e) v u → Way (edges_of ends lengths [] m) u w d → x ≡ get_or lengths e 0 + d → Way (edges_of ends lengths [] m) v w x
  way_along e v u w d x l j y q =
      let s : x ≡ length_at (edges_of ends lengths [] m) e + d = omega (arith, len_at e l) in
      rw s (along e (omega (arith, edges_length ends lengths m)) (joins e v u l j) y)

  -- each distance up to that of `from` is the length of a way
  attained : (k v : ℕ) → v < max_vertices → get_or distances v 0 < k → get_or distances v 0 ≤ get_or distances from 0 → get_or distances v 0 < unreached
      → Way (edges_of ends lengths [] m) v goal (get_or distances v 0)
  attained zero v vn b c r = absurd (not-suc-le-zero b)
  attained (suc k) v vn b c r = go (g.reason v vn r) (λ u. attained k u)
    where
      go : Reason ends lengths m goal distances v
          → ((u : ℕ) → u < max_vertices → get_or distances u 0 < k → get_or distances u 0 ≤ get_or distances from 0 → get_or distances u 0 < unreached → Way (edges_of ends lengths [] m) u goal (get_or distances u 0))
          → Way (edges_of ends lengths [] m) v goal (get_or distances v 0)
      go (is_goal q) ih = way_here _ v goal (get_or distances v 0) q (at_end v q)
      go (over e u l j b') ih =
          let s = step e v u l j in
          let p = g.bounded.searchable.long e l in
          way_along e v u goal (get_or distances u 0) (get_or distances v 0) l j
          (ih u (ends_below g.bounded.searchable l j).1 (omega arith) (omega arith) (omega arith))
          (omega arith)

  -- no way is shorter than the distance at its start
  lower : {v w d : ℕ} → Way (edges_of ends lengths [] m) v w d → w ≡ goal → min (get_or distances from 0) (get_or distances v 0) ≤ d
  lower (here {v}) q = let z = at_end v q in omega arith
  lower (along {v = v} {w = u} {l = d} e l j w) q =
      let l' : e < m = omega (arith, edges_length ends lengths m) in
      let s = step e v u l' (joined' e v u l' j) in
      let i = lower w q in
      omega (arith, len_at e l')

  -- a settled distance is the least length of a way
  pub settled_joined : from < max_vertices → get_or distances from 0 < unreached → Least (λ (d : ℕ). Way (edges_of ends lengths [] m) from goal d) (get_or distances from 0)
  settled_joined l r = record {
    holds = attained (suc (get_or distances from 0)) from l (omega arith) (omega arith) r;
    least = λ e w. let i = lower w refl in omega arith;
  }

  -- where `from` is not reached, the distances of the others are small
  bounded : (k v : ℕ) → unreached ≤ get_or distances from 0 → v < max_vertices → get_or distances v 0 < k → get_or distances v 0 < unreached
      → get_or distances v 0 ≤ max_length * belows distances max_vertices (get_or distances v 0)
  bounded zero v o vn b r = absurd (not-suc-le-zero b)
  bounded (suc k) v o vn b r = go (g.reason v vn r) (λ u. bounded k u o)
    where
      go : Reason ends lengths m goal distances v
          → ((u : ℕ) → u < max_vertices → get_or distances u 0 < k → get_or distances u 0 < unreached → get_or distances u 0 ≤ max_length * belows distances max_vertices (get_or distances u 0))
          → get_or distances v 0 ≤ max_length * belows distances max_vertices (get_or distances v 0)
      go (is_goal q) ih = let z = at_end v q in omega arith
      go (over e u l j b') ih =
          let s = step e v u l j in
          let h = g.bounded.searchable in
          let p = h.long e l in
          let p' = h.short e l in
          let un = (ends_below h l j).1 in
          let i = ih u un (omega arith) (omega arith) in
          let c = belows_more distances max_vertices (get_or distances u 0) (get_or distances v 0) u un (omega arith) (omega arith) in
          omega arith

  -- and no edge leads to one of them from a vertex that is not reached
  reached : {v w d : ℕ} → unreached ≤ get_or distances from 0 → Way (edges_of ends lengths [] m) v w d → w ≡ goal → goal < max_vertices → (v < max_vertices) × (get_or distances v 0 < unreached)
  reached o (here {v}) q l = let z = at_end v q in (omega arith, omega arith)
  reached o (along {v = v} {w = u} e k j w) q l =
      let k' : e < m = omega (arith, edges_length ends lengths m) in
      let j' = joined' e v u k' j in
      let s = step e v u k' j' in
      let i = reached o w q l in
      let b = bounded (suc (get_or distances u 0)) u o i.0 (omega arith) i.1 in
      let c = belows_le distances max_vertices (get_or distances u 0) in
      let x = g.bounded.searchable.short e k' in
      ((ends_below g.bounded.searchable k' j').0, omega arith)

  -- where `from` is not reached there is no way
  pub settled_none : goal < max_vertices → unreached ≤ get_or distances from 0 → (d : ℕ) → Way (edges_of ends lengths [] m) from goal d → ⊥
  settled_none l o d w = let i = reached o w refl l in omega (arith, i.1)
