-- How often one vertex is relabelled, in every register that landing leaves (document 02, S-12): the room that its times need is there; so they
-- are at most twice the logarithm of the number of edges. And over all vertices they add up to the total.
use mathlib.Core.Path.{◌≡◌, refl, sym, ap, ◌∙◌, subst}
use mathlib.Core.Logic.{◌≢◌}
use Prim.Native.Nat.{ℕ, zero, suc, ◌+◌, ◌^◌, ◌≤◌, ◌<◌}
use native.Mathlib.Omega.{arith}
use native.Mathlib.Nat.{not-suc-le-zero}
use native.Mathlib.Decide.{dec_le}
use mathlib.Core.Bool.{true}
use mathlib.Core.List.{List, [], ◌∷◌, ◌++◌, map}
use lib.ListN.{length, get_or}
use lib.Pow.{pow_pos}
use Rattle.model.specs.Basics.{floor_log, max_vertices, sum, up_to}
use Rattle.model.specs.Graph.{Edge, Pass, degree, edge_on_ring, end_onwards, far, incident, is_leaf, is_regular, once_round, onwards}
use Rattle.model.specs.Labels.{relabel_count}
use Rattle.model.specs.Register.{Register, empty, marks_of, with_edge, with_vertex}
use Rattle.model.specs.Series.{Landing, landing_of}
use Rattle.model.specs.Notions.{Admissible, Reachable, from_empty, history, leaf_room, most_times, times_relabelled, with_edge_lem, with_vertex_lem}
use Rattle.model.proofs.Basics.FloorLog.{floor_log_most, times_within}
use Rattle.model.proofs.Basics.Lists.{pair_are}
use Rattle.model.proofs.Basics.Total.{sum_up_to, total, total_add, total_same, total_zero}
use Rattle.model.proofs.Walks.Degree.{is_two, length_incident_from}
use Rattle.model.proofs.Walks.Turn.{At, TwoEdges, two_edges}
use Rattle.model.proofs.Walks.NewEdge.{at_new}
use Rattle.model.proofs.Walks.Tours.{ring_tour}
use Rattle.theory.proofs.Labels.Relabellings.{moved, relabel_count_total}
use Rattle.theory.proofs.Repeats.Before.{leads_to_leaf}
use Rattle.theory.proofs.Repeats.Room.{Room}
use Rattle.theory.proofs.Repeats.Landed.{room_landed}
use Rattle.model.proofs.Registers.Accepted.{accepted, added}
use Rattle.theory.proofs.Registers.Reachable.{founded}
use Rattle.theory.proofs.Registers.Labelled.{Labelled, labelled, edge_inserted, long_marks}

times_snoc : (v : ℕ) (ls : List Landing) (l : Landing) → times_relabelled v (ls ++ (l ∷ [])) ≡ times_relabelled v ls + moved (get_or l.before v 0) (get_or l.after v 0)
unfolding times_relabelled moved
times_snoc v [] l = omega arith
times_snoc v (a ∷ ls) l = omega (arith, times_snoc v ls l)

-- ---- the room that the times of a vertex need is there

room_empty : (v : ℕ) → Room [] v 2
unfolding degree
room_empty v = record {
  not_yet = λ h. refl;
  always = λ h. absurd (omega arith);
  to_leaf = λ d c a. absurd (not-suc-le-zero a.inside);
  two_leaves = λ c d q a. absurd (not-suc-le-zero a.inside);
  on_ring = λ d q path t. absurd (not-suc-le-zero t.d_at.inside);
}

room_edge : (r : Register) (e : Edge) (v t : ℕ) → Labelled r → Admissible r e → Room r.edges v (2 ^ suc t)
    → Room (with_edge r e).edges v (2 ^ suc (t + moved (get_or r.labels v 0) (get_or (with_edge r e).labels v 0)))
unfolding with_edge marks_of
room_edge r e v t c a o =
    let l = long_marks r e c a in
    room_landed r.edges e c.founded.proper a.lawful.differ (marks_of r) c.bare (record { long = λ w d b. l.long w d (at_new r.edges e b); even = l.even }) v t o (edge_inserted r e c a)

pub room_times : (r : Register) (k : Reachable r) (v : ℕ) → Room r.edges v (2 ^ suc (times_relabelled v (history k)))
unfolding history times_relabelled empty with_vertex
room_times r (from_empty q) v = subst (λ (s : Register). Room s.edges v 2) (sym q) (room_empty v)
room_times r (with_vertex_lem {r = s} k h) v =
    subst (λ (u : Register). Room u.edges v (2 ^ suc (times_relabelled v (history k)))) (added s r h).1 (room_times s k v)
room_times r (with_edge_lem {r = s} e k h) v =
    let (a, is) = accepted s e r h in
    let t : ℕ = times_relabelled v (history k) in
    let o : Room r.edges v (2 ^ suc (t + moved (get_or s.labels v 0) (get_or r.labels v 0))) =
    subst (λ (u : Register). Room u.edges v (2 ^ suc (t + moved (get_or s.labels v 0) (get_or u.labels v 0)))) is (room_edge s e v t (labelled s k) a (room_times s k v)) in
    subst (λ (n : ℕ). Room r.edges v (2 ^ suc n)) (sym (times_snoc v (history k) (landing_of s e r))) o

-- ---- so they are few

none : (t : ℕ) → 2 ^ suc t ≡ 2 → t ≡ 0
none zero q = refl
none (suc t) q = absurd (omega (arith, q, pow_pos t))

-- no vertex is relabelled more often than twice the logarithm
pub few_times : (r : Register) (k : Reachable r) (v : ℕ) → times_relabelled v (history k) ≤ most_times (length r.edges)
few_times r k v = go (dec_le (degree r.edges v) 1)
  where
    go : Dec (degree r.edges v ≤ 1) → times_relabelled v (history k) ≤ most_times (length r.edges)
    go (yes q) = omega (arith, none (times_relabelled v (history k)) ((room_times r k v).not_yet q))
    go (no q) = times_within (times_relabelled v (history k)) (length r.edges) ((room_times r k v).always (omega (arith, q)))

-- ---- and fewer where there is less room

module _ (r : Register) (k : Reachable r) (v : ℕ) where
  abbrev es : List Edge
  es = r.edges

  -- a vertex on a ring: fewer times than the logarithm of the ring's number of edges
  pub times_on_ring : (d : ℕ) → At es v d → edge_on_ring es d ≡ true → times_relabelled v (history k) < floor_log (length (once_round es d v) + 1)
  times_on_ring d a t =
      let u = ring_tour es (founded r k).proper d v t a in
      floor_log_most (length (once_round es d v) + 1) _ ((room_times r k v).on_ring d u.0 (once_round es d v) u.1)

  -- a vertex on a chain with a leaf: fewer than that of the edges up to the leaf times all edges
  pub times_near_leaf : (d : ℕ) → is_regular es v ≡ true → At es v d → is_leaf es (end_onwards es d (far es d v)) ≡ true
      → times_relabelled v (history k) < floor_log (leaf_room (length (onwards es d (far es d v))) (length es))
  times_near_leaf d c a h =
      let (l, is) = leads_to_leaf es d (far es d v) h in
      subst (λ (ss : List Pass). times_relabelled v (history k) < floor_log (leaf_room (length ss) (length es))) is
      (floor_log_most (leaf_room (length l.passes) (length es)) _ ((room_times r k v).to_leaf d (is_two es v c) a l))

  -- a vertex on a chain between two leaves: fewer than that of the chain's number of edges
  pub times_between_leaves : (c d : ℕ) → incident es v ≡ c ∷ d ∷ [] → is_leaf es (end_onwards es c (far es c v)) ≡ true → is_leaf es (end_onwards es d (far es d v)) ≡ true
      → times_relabelled v (history k) < floor_log (length (onwards es c (far es c v)) + length (onwards es d (far es d v)) + 2)
  unfolding incident
  times_between_leaves c d q h g =
      let pr = (founded r k).proper in
      let two : degree es v ≡ 2 = sym (length_incident_from 0 es v pr) ∙ ap length q in
      let e : TwoEdges es v = two_edges es v pr two in
      let i = pair_are (sym q ∙ e.list) in
      let (l, l-is) = leads_to_leaf es c (far es c v) h in
      let (m, m-is) = leads_to_leaf es d (far es d v) g in
      let differ : c ≢ d = λ z. omega (arith, i.0, i.1, e.differ) in
      let room = (room_times r k v).two_leaves c d two (rw i.0 e.low_at_lem) (rw i.1 e.high_at) differ (record { one = l; other = m }) in
      floor_log_most (length (onwards es c (far es c v)) + length (onwards es d (far es d v)) + 2) _ (omega (arith, room, ap length l-is, ap length m-is))

-- ---- over all vertices they add up to the total

relabellings_edge : (r : Register) (e : Edge) → (with_edge r e).relabellings ≡ r.relabellings + relabel_count r.labels (with_edge r e).labels
unfolding with_edge
relabellings_edge r e = refl

times_total : (r : Register) (k : Reachable r) → total max_vertices (λ v. times_relabelled v (history k)) ≡ r.relabellings
unfolding history times_relabelled empty with_vertex
times_total r (from_empty q) = total_zero max_vertices ∙ ap (λ (s : Register). s.relabellings) (sym q)
times_total r (with_vertex_lem {r = s} k h) = times_total s k ∙ ap (λ (u : Register). u.relabellings) (added s r h).1
times_total r (with_edge_lem {r = s} e k h) =
    let before : ℕ → ℕ = λ v. times_relabelled v (history k) in
    let now : ℕ → ℕ = λ v. moved (get_or s.labels v 0) (get_or r.labels v 0) in
    let each : total max_vertices (λ v. times_relabelled v (history k ++ (landing_of s e r ∷ []))) ≡ total max_vertices (λ v. before v + now v) =
    total_same max_vertices _ _ (λ v l. times_snoc v (history k) (landing_of s e r)) in
    let new : r.relabellings ≡ s.relabellings + relabel_count s.labels r.labels =
    subst (λ (u : Register). u.relabellings ≡ s.relabellings + relabel_count s.labels u.labels) (accepted s e r h).1 (relabellings_edge s e) in
    let all : relabel_count s.labels r.labels ≡ total max_vertices now = relabel_count_total max_vertices s.labels r.labels (omega (arith, (labelled s k).founded.labels_long)) in
    omega (arith, each, new, all, total_add max_vertices before now, times_total s k)

-- the times of all vertices add up to the total
pub times_add_up : (r : Register) (k : Reachable r) → sum (map (λ v. times_relabelled v (history k)) (up_to max_vertices)) ≡ r.relabellings
times_add_up r k = sum_up_to max_vertices (λ v. times_relabelled v (history k)) ∙ times_total r k
