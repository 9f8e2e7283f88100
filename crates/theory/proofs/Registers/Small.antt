-- Every number of a register fits 32 bits, and no distance is the number for "not joined".
use mathlib.Core.Path.{◌≡◌, refl, ap, subst}
use Prim.Native.Nat.{ℕ, ◌+◌, ◌*◌, ◌≤◌, ◌<◌}
use native.Mathlib.Omega.{arith}
use native.Mathlib.Nat.{mul-le-mul_right, mul-le-mul_left}
use native.Mathlib.Decide.{dec_lt}
use mathlib.Core.Bool.{false}
use mathlib.Core.List.{List, [], ◌∷◌, ◌++◌, map}
use lib.ListN.{length, get_or}
use lib.Dec.{leb}
use Rattle.model.specs.Basics.{floor_log, max_edges, max_length, max_vertices, max_volume, sum}
use Rattle.model.specs.Graph.{Edge, Pass, chain_length, chain_of, chain_volume, length_at, edge_on_ring, volume_at}
use Rattle.model.specs.Cases.{Case, case_at, closes, extends, merges, new_chain, opposite, split_both, split_extends, split_new, vertex_at}
use Rattle.model.specs.Labels.{Labelling, Marks, attach, close, close_over, extend, inner_count, inwards, label_case, label_edge, merge, on_one_ring, vertex_on_ring, split_or_tap, split_two, tap}
use Rattle.model.specs.Register.{Register, empty, marks_of, with_edge, with_vertex}
use Rattle.model.specs.Distance.{distance, joined}
use Rattle.model.specs.Queries.{length_to}
use Rattle.model.specs.Notions.{Admissible, Reachable}
use Rattle.model.proofs.Computing.{computing}
use Rattle.model.proofs.Basics.Booleans.{if_either}
use Rattle.model.proofs.Basics.Counting.{occurs}
use Rattle.model.proofs.Basics.Lists.{lengths_are}
use Rattle.model.proofs.Basics.Volumes.{volume_most}
use Rattle.model.proofs.Walks.Degree.{Proper}
use Rattle.model.proofs.Walks.Turn.{At}
use Rattle.model.proofs.Walks.NewEdge.{length_new}
use Rattle.model.proofs.Basics.Total.{total_const, total_le}
use Rattle.model.proofs.Chains.Partition.{each_once}
use Rattle.model.proofs.Chains.Sums.{chain_occurs}
use Rattle.model.proofs.Chains.Reaches.{chain_at_lem}
use Rattle.model.proofs.Basics.FloorLog.{floor_log_mono}
use Rattle.theory.proofs.Distances.Nearer.{distance_most}
use Rattle.theory.proofs.Registers.Labelled.{label_facts}
use Rattle.theory.proofs.Registers.Reachable.{founded, reachable_keeps}

-- ---- a chain's length and volume

once_most : (c l m : ℕ) → c ≤ 1 → l ≤ m → c * l ≤ m
once_most c l m a b = let z : c * l ≤ 1 * l = mul-le-mul_right l a in omega arith

-- numbers of the edges that are at most m each
chain_most : (es : List Edge) → Proper es → (w : ℕ → ℕ) (m : ℕ) → ((c : ℕ) → c < length es → w c ≤ m) → (d : ℕ) → d < length es
    → sum (map w (chain_of es d).edges) ≤ m * length es
chain_most es pr w m most d h =
    let ds = (chain_of es d).edges in
    let o = each_once es pr d h in
    omega (
      arith,
      chain_occurs es pr w d h,
      total_const (length es) m,
      total_le (length es) (λ c. occurs c ds * w c) (λ c. m) (λ c l. once_most (occurs c ds) (w c) m (o.distinct c) (most c l)),
    )

-- a chain is at most 4,096 times 100,000 mm long
pub chains_small : (r : Register) → Reachable r → (d : ℕ) → d < length r.edges → chain_length r.edges d ≤ 409600000
unfolding chain_length length_at
chains_small r k d h =
    let l = founded r k in
    let es = r.edges in
    let b = chain_most es l.proper (length_at es) max_length (λ c g. (l.lawful c g).most_length) d h in
    omega (arith, ap sum (lengths_are es (chain_of es d).edges), b, l.room)

-- the volumes of its edges, unknown ones as 0: so no part of their sum is above 4,096,000,000
pub volumes_small : (r : Register) → Reachable r → (d : ℕ) → d < length r.edges
    → sum (map (volume_at r.edges) (chain_of r.edges d).edges) ≤ 4096000000
unfolding volume_at
volumes_small r k d h =
    let l = founded r k in
    let es = r.edges in
    omega (arith, chain_most es l.proper (volume_at es) max_volume (λ c g. (l.lawful c g).most_volume) d h, l.room)

-- a chain has at most 4,096 times 1,000,000 ml
pub volume_small : (r : Register) → Reachable r → (d : ℕ) → d < length r.edges → chain_volume r.edges d ≤ 4096000000
unfolding chain_volume
volume_small r k d h = omega (arith, volume_most (map (volume_at r.edges) (chain_of r.edges d).edges), volumes_small r k d h)

-- a reach, from an end of an edge along it to the end of its chain, is a part of the chain, if that is no ring
pub reaches_small : (r : Register) → Reachable r → (d v : ℕ) → At r.edges v d → edge_on_ring r.edges d ≡ false → length_to r.edges d v ≤ 409600000
reaches_small r k d v a t = omega (arith, chain_at_lem r.edges d v (founded r k).proper a t, chains_small r k d a.inside)

-- ---- a distance

-- a distance is at most 4,096 times 100,000 mm
pub distances_small : (r : Register) → Reachable r → (v w l : ℕ) → distance r.edges v w ≡ joined l → l ≤ 409600000
distances_small r k v w l e =
    let c = founded r k in
    omega (arith, distance_most r.edges w r.vertices c.lawful v l e, c.few)

-- ---- blocks: at most two for each edge

attach_blocks : (blocks d : ℕ) (kept path : List Pass) (m : Marks) → (attach blocks d kept path m).blocks ≤ blocks + 1
unfolding attach
attach_blocks blocks d [] path m = omega arith
attach_blocks blocks d (u ∷ us) path m = omega arith

attach_two : (blocks d : ℕ) (kept path : List Pass) (m : Marks) → (attach blocks d kept path m).blocks ≤ blocks + 2
attach_two blocks d kept path m = omega (arith, attach_blocks blocks d kept path m)

extend_blocks : (es new : List Edge) (blocks x : ℕ) (m : Marks) → (extend es new blocks x m).blocks ≤ blocks + 1
unfolding extend
extend_blocks es new blocks x m = attach_blocks blocks _ _ _ m

split_or_tap_blocks : (es : List Edge) (blocks v : ℕ) (m : Marks) → (split_or_tap es blocks v m).blocks ≤ blocks + 1
unfolding split_or_tap tap
split_or_tap_blocks es blocks v m = if_either (λ (l : Labelling). l.blocks ≤ blocks + 1) (vertex_on_ring es v) _ _ (omega arith) (omega arith)

split_two_blocks : (es : List Edge) (blocks v w : ℕ) (m : Marks) → (split_two es blocks v w m).blocks ≤ blocks + 2
unfolding split_two
split_two_blocks es blocks v w m =
    let l : Labelling = split_or_tap es blocks v m in
    if_either (λ (k : Labelling). k.blocks ≤ blocks + 2) (on_one_ring es v w) _ _
    (omega (arith, split_or_tap_blocks es blocks v m)) (omega (arith, split_or_tap_blocks es blocks v m, split_or_tap_blocks es l.blocks w l.marks))

close_blocks : (from-a from-b : List Pass) (es : List Edge) (blocks a b : ℕ) (m : Marks) → (close_over from-a from-b es blocks a b m).blocks ≤ blocks + 1
unfolding close_over attach
close_blocks [] from-b es blocks a b m = omega arith
close_blocks (u ∷ us) from-b es blocks a b m = attach_blocks blocks _ from-b _ _

case_blocks : (c : Case) (es : List Edge) (e : Edge) (blocks : ℕ) (m : Marks) → (label_case c es e blocks m).blocks ≤ blocks + 2
unfolding label_case merge close
case_blocks new_chain es e blocks m = omega arith
case_blocks (extends x) es e blocks m = omega (arith, extend_blocks es (es ++ (e ∷ [])) blocks (vertex_at e x) m)
case_blocks merges es e blocks m =
    if_either (λ (l : Labelling). l.blocks ≤ blocks + 2) (leb (inner_count es e.second) (inner_count es e.first)) _ _
    (attach_two blocks _ _ _ m) (attach_two blocks _ _ _ m)
case_blocks closes es e blocks m = omega (arith, close_blocks (inwards es e.first) (inwards es e.second) es blocks e.first e.second m)
case_blocks (split_extends x) es e blocks m =
    let l : Labelling = split_or_tap es blocks (vertex_at e (opposite x)) m in
    omega (arith, split_or_tap_blocks es blocks (vertex_at e (opposite x)) m, extend_blocks es (es ++ (e ∷ [])) l.blocks (vertex_at e x) l.marks)
case_blocks (split_new x) es e blocks m = omega (arith, split_or_tap_blocks es blocks (vertex_at e x) m)
case_blocks split_both es e blocks m = split_two_blocks es blocks e.first e.second m

abbrev FewBlocks : Register → Type 0
FewBlocks r = r.blocks ≤ 2 * length r.edges

few_empty : FewBlocks empty
unfolding empty
few_empty = omega arith

few_vertex : (r : Register) → FewBlocks r → r.vertices < max_vertices → FewBlocks (with_vertex r)
unfolding with_vertex
few_vertex r h a = h

few_edge : (r : Register) (e : Edge) → FewBlocks r → Admissible r e → FewBlocks (with_edge r e)
unfolding with_edge label_edge
few_edge r e h a =
    let b = case_blocks (case_at r.edges e) r.edges e r.blocks (marks_of r) in
    omega (arith, b, length_new r.edges e, h)

-- there are at most two blocks for each edge
pub blocks_small : (r : Register) → Reachable r → r.blocks ≤ 2 * length r.edges
blocks_small r k = reachable_keeps (λ s. FewBlocks s) few_empty few_vertex few_edge r k

-- ---- labels, and the total of relabellings

-- a label is at most 67,117,055
pub labels_small : (r : Register) → Reachable r → (v : ℕ) → get_or r.labels v 0 ≤ 67117055
labels_small r k v = omega (arith, (label_facts r k).most v, blocks_small r k, (founded r k).room)

twelve : floor_log max_edges ≡ 12
unfolding computing
twelve = refl

-- the total is at most 4,096 times 12
pub total_small : (r : Register) → Reachable r → r.relabellings ≤ 49152
total_small r k = go (dec_lt 0 n)
  where
    n : ℕ
    n = length r.edges

    go : Dec (0 < n) → r.relabellings ≤ 49152
    go (yes h) =
        let l : floor_log n ≤ 12 = omega (arith, floor_log_mono n max_edges (omega arith) (founded r k).room, twelve) in
        let p : n * floor_log n ≤ n * 12 = mul-le-mul_left n l in
        omega (arith, (label_facts r k).bound, p, (founded r k).room)
    go (no h) =
        let z : n ≡ 0 = omega arith in
        let p : r.relabellings ≤ 0 * floor_log 0 = subst (λ (m : ℕ). r.relabellings ≤ m * floor_log m) z (label_facts r k).bound in
        omega (arith, p)
