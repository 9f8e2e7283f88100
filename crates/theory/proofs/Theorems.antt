-- What holds of every register that landing leaves: eleven theorems, each a record of claims in the words of specs/, and its proof. Such
-- registers are what growing leaves and what landing a list in one of them leaves (`reachable_grown` and `reachable_list` in Series/Landings), what
-- lent tables hold (`only_held` in Registers/OnlyHeld), and what a series of calls leaves in each house (`nursery`).
-- docs/THEORY.md has the argument, and the files on which each proof rests.
use mathlib.Core.Path.{◌≡◌, sym, ap, ◌∙◌}
use mathlib.Core.Logic.{◌≢◌, ◌⊎◌}
use Prim.Native.Nat.{ℕ, ◌+◌, ◌*◌, ◌^◌, ◌≤◌, ◌<◌}
use native.Mathlib.Omega.{arith}
use native.Mathlib.Numerals.{add-one}
use mathlib.Core.Bool.{true, false}
use mathlib.Core.List.{List, [], ◌∷◌, ◌++◌, map, Memᴰ as Mem}
use mathlib.Core.Option.{some}
use lib.ListN.{length, get_or}
use lib.Dec.{eqb-suc-suc}
use Rattle.model.specs.Basics.{floor_log, sum, up_to, max_vertices}
use Rattle.model.specs.Graph.{Chain, Edge, chain_length, chain_of, chain_volume, volume_at, volume_sum, degree, edge_at, end_onwards, ends_at, is_leaf, is_regular, name_of, onwards, walk, far, incident, lengths_of, edge_on_ring, once_round, only_edge}
use Rattle.model.specs.Register.{Quote, Register, case_number, commit, declines, edge_refusal, label_of, land_edge, land_edge_within, land_vertex, landed, offers, quote, refused, relabels_of, with_edge, with_vertex}
use Rattle.model.specs.Format.{Read, grow_list, whole, written}
use Rattle.model.specs.Cases.{case_at, closes, closes_ring}
use Rattle.model.specs.Distance.{ChainWay, IsDistance, LooseWay, Way, distance, joined, Joins, length_via}
use Rattle.model.specs.Queries.{OpenSheet, chain_at, fetched, find, find_at, finished, found, measure, measured, refuses, sheet, sheet_numbers, length_to}
use Rattle.model.specs.Opened.{any_beyond, fetch, is_beyond, moved_on, opened_edges, opened_lines, opening_of}
use Rattle.model.specs.Newest.{chain_in, newest_first, search}
use Rattle.model.specs.Tables.{Stored, edge_lengths, grow_from, held, stored_of}
use Rattle.model.specs.Series.{FindsOwn, OwnChain, landed_edges, length_column, relabelled_by}
use Rattle.model.specs.Notions.{Admissible, ComesBack, IsChain, IsRing, LandedAs, LandedSince, NamedIn, NoTwice, Reachable, RisesRound, SameChain, SameEdges, SameRing, SheetNames, ShorterWay, Upwards, history, leaf_room, most_times, reversed, times_relabelled}
use Rattle.model.proofs.Walks.Degree.{Proper, degree_snoc, is_two, proper_snoc}
use Rattle.model.proofs.Walks.Turn.{At}
use Rattle.model.proofs.Walks.Joins.{across, joins_at, joins_back}
use Rattle.model.proofs.Walks.Snoc.{regular_old}
use Rattle.theory.proofs.Labels.Closings.{case_closing, closing_case}
use Rattle.model.proofs.Walks.NewEdge.{at_new}
use Rattle.model.proofs.Walks.Returns.{ended_ring, off_ring, singular_ends}
use Rattle.model.proofs.Walks.Ring.{back_on_ring, comes_back, ends_still, ring_decides}
use Rattle.model.proofs.Walks.Round.{round_open}
use Rattle.model.proofs.Walks.Whole.{Onwards, onwards_ends}
use Rattle.model.proofs.Chains.Sheet.{sheet_sum}
use Rattle.model.proofs.Chains.Exact.{chain_is_chain, chain_only}
use Rattle.model.proofs.Chains.ExactRing.{no_vertex_twice, ring_is_ring, ring_only, ring_row}
use Rattle.model.proofs.Chains.Partition.{chain_again, chain_has, chain_name, first_at, name_in_chain, name_least}
use Rattle.model.proofs.Chains.Names.{sheet_names}
use Rattle.model.proofs.Chains.StillRing.{ring_tapped, ring_whole, still_open, still_ring}
use Rattle.model.proofs.Chains.Opened.{ring_opened}
use Rattle.model.proofs.Chains.Reaches.{hop_lengths}
use Rattle.model.proofs.Chains.Volumes.{unknown_edge}
use Rattle.model.proofs.Basics.FloorLog.{floor_log_fits, floor_log_most}
use Rattle.model.proofs.Distances.Distance.{is_distance}
use Rattle.theory.proofs.Distances.Arcs.{shorter_way}
use Rattle.theory.proofs.Distances.Hops.{chains_distance, loose_distance}
use Rattle.model.proofs.Registers.Accepted.{edge_lands, no_refusal, within_lands}
use Rattle.theory.proofs.Registers.Within.{at_limit, below_limit, only_at_limit}
use Rattle.model.proofs.Registers.Quotes.{commit_32, commit_differs, through_pair}
use Rattle.theory.proofs.Registers.AsQuoted.{landed_as, quoted_declines, quoted_lands, quoted_none, quoted_some}
use Rattle.theory.proofs.Registers.Founded.{Founded}
use Rattle.theory.proofs.Registers.Facts.{LabelFacts, zero_then}
use Rattle.theory.proofs.Registers.Labelled.{label_facts}
use Rattle.theory.proofs.Registers.Times.{few_times, times_add_up, times_between_leaves, times_near_leaf, times_on_ring}
use Rattle.theory.proofs.Registers.Sides.{sided}
use Rattle.theory.proofs.Labels.Consecutive.{chain_upwards}
use Rattle.theory.proofs.Labels.ConsecutiveRound.{ring_upwards}
use Rattle.theory.proofs.Registers.Kept.{kept_held}
use Rattle.theory.proofs.Series.Told.{history_told}
use Rattle.theory.proofs.Registers.Reachable.{either_order, founded, kept, same_contents}
use Rattle.theory.proofs.Registers.OnlyHeld.{only_held}
use Rattle.theory.proofs.Registers.Written.{written_grows, written_length, written_same}
use Rattle.theory.proofs.Registers.Small.{chains_small, distances_small, labels_small, volume_small}
use Rattle.theory.proofs.Registers.Answers.{find_none, find_not_landed, find_singular, finds_chain, found_adds, found_at_lem, found_wears, measure_is}
use Rattle.theory.proofs.Registers.Newest.{Falling, falling, own_newest, search_finds}
use Rattle.theory.proofs.Registers.Named.{beyond_refused, lines_few, lines_stay, named, opened_sheet, opened_within, still_within}
use Rattle.model.proofs.Registers.Fetched.{fetch_beyond, fetch_done, fetch_ended, fetch_line_lem, only_beyond, only_done, only_ended}

-- ---- 1. Walks and rings

-- An edge lies on a ring or not, and `edge_on_ring` tells. If not, every walk along it ends at a singular vertex, within the number of edges. If
-- so, every walk along it passes regular vertices alone and comes back to it within the number of edges. One more edge lands if 5, 6, 7, 31
-- and 23 do not hold of it (`Admissible`). It then lies on a ring exactly if its case is the closing, and this ring has the whole chain that it
-- closes; what ended still ends, if it is not the closing, and if it is, off that chain. A ring that it does not meet stays, and one that it
-- meets is a ring no more: if it meets one vertex of it, the ring becomes the chain with the same edges from this vertex to itself.
pub record EndsOrReturns (r : Register) : Type 0 where
  pub ends : (d v : ℕ) → d < length r.edges → ends_at v (edge_at r.edges d) ≡ 1 → edge_on_ring r.edges d ≡ false
      → is_regular r.edges (end_onwards r.edges d v) ≡ false
  pub is_short : (d v : ℕ) → d < length r.edges → ends_at v (edge_at r.edges d) ≡ 1 → edge_on_ring r.edges d ≡ false
      → length (onwards r.edges d v) < length r.edges
  pub bound_enough : (d v n : ℕ) → d < length r.edges → ends_at v (edge_at r.edges d) ≡ 1 → edge_on_ring r.edges d ≡ false
      → length r.edges ≤ n → walk n r.edges d v ≡ onwards r.edges d v
  pub from_singular : (d v w : ℕ) → d < length r.edges → Joins (edge_at r.edges d) v w → is_regular r.edges v ≡ false → edge_on_ring r.edges d ≡ false
  pub returns : (d v : ℕ) → d < length r.edges → ends_at v (edge_at r.edges d) ≡ 1 → edge_on_ring r.edges d ≡ true
      → (k : ComesBack r.edges d v) × (k.steps ≤ length r.edges)
  pub only_rings : (d v : ℕ) → ComesBack r.edges d v → edge_on_ring r.edges d ≡ true
  pub lands : (e : Edge) → Admissible r e → land_edge r e ≡ landed (with_edge r e)
  pub ring_closed : (e : Edge) → Admissible r e → edge_on_ring (r.edges ++ (e ∷ [])) (length r.edges) ≡ closes_ring r.edges e.first e.second
  pub closing_case : (e : Edge) → closes_ring r.edges e.first e.second ≡ true → case_at r.edges e ≡ closes
  pub case_closing : (e : Edge) → case_at r.edges e ≡ closes → closes_ring r.edges e.first e.second ≡ true
  pub still_ends : (e : Edge) (d : ℕ) → Admissible r e → closes_ring r.edges e.first e.second ≡ false → d < length r.edges → edge_on_ring r.edges d ≡ false
      → edge_on_ring (r.edges ++ (e ∷ [])) d ≡ false
  pub ends_elsewhere : (e : Edge) (d : ℕ) → Admissible r e → d < length r.edges → edge_on_ring r.edges d ≡ false
      → (Mem d (chain_of r.edges (only_edge r.edges e.first)).edges → ⊥) → edge_on_ring (r.edges ++ (e ∷ [])) d ≡ false
  pub chain_closed : (e : Edge) (d : ℕ) → Admissible r e → closes_ring r.edges e.first e.second ≡ true → Mem d (chain_of r.edges (only_edge r.edges e.first)).edges
      → Mem d (chain_of (r.edges ++ (e ∷ [])) (length r.edges)).edges
  pub ring_stays : (e : Edge) (d : ℕ) → Admissible r e → d < length r.edges → edge_on_ring r.edges d ≡ true
      → ((v : ℕ) → Mem v (chain_of r.edges d).inner → ends_at v e ≡ 0) → edge_on_ring (r.edges ++ (e ∷ [])) d ≡ true
  pub ring_tapped : (e : Edge) (d v : ℕ) → Admissible r e → d < length r.edges → edge_on_ring r.edges d ≡ true → Mem v (chain_of r.edges d).inner → ends_at v e ≡ 1
      → edge_on_ring (r.edges ++ (e ∷ [])) d ≡ false
  -- document 02, S-2: "the ring becomes a loop run at it .. both ends are that fitting"
  pub ring_opened : (e : Edge) (d v : ℕ) → Admissible r e → d < length r.edges → edge_on_ring r.edges d ≡ true → Mem v (chain_of r.edges d).inner → ends_at v e ≡ 1
      → ((w : ℕ) → Mem w (chain_of r.edges d).inner → w ≢ v → ends_at w e ≡ 0)
      → let c = chain_of (r.edges ++ (e ∷ [])) d in (c.start ≡ v) × (c.stop ≡ v) × SameEdges c (chain_of r.edges d)

-- ---- 2. Every edge lies on exactly one chain or ring

-- The chain of an edge is one, or a ring, has the edge, and every chain or ring with the edge is it: a chain read in the same direction or
-- in the other, a ring read from any of its vertices in either direction, with as many vertices, as long and of one volume. No vertex stands
-- in it twice. So its edges have one name, the least of them. The sheet has each chain and ring once, by rising name, and its lengths add up
-- to those of the edges. A volume is 0, unknown, only where that of one of its edges is.
-- With an edge more, chains pass those of its ends that were leaves: this extends a chain, merges two, or closes one to a ring. They end at
-- its other ends: this splits the chain of one that was regular, or opens its ring to a chain from that end to itself. Elsewhere chains and
-- rings pass and end where they did.
pub record OneChain (r : Register) : Type 0 where
  pub is_chain : (d : ℕ) → d < length r.edges → edge_on_ring r.edges d ≡ false → IsChain r.edges (chain_of r.edges d)
  pub is_ring_lem : (d : ℕ) → d < length r.edges → edge_on_ring r.edges d ≡ true → IsRing r.edges (chain_of r.edges d)
  pub has_edge : (d : ℕ) → Mem d (chain_of r.edges d).edges
  pub only_chain : (c : Chain) (d : ℕ) → IsChain r.edges c → Mem d c.edges
      → (edge_on_ring r.edges d ≡ false) × SameChain c (chain_of r.edges d)
  pub only_ring : (c : Chain) (d : ℕ) → IsRing r.edges c → Mem d c.edges → (edge_on_ring r.edges d ≡ true) × SameRing c (chain_of r.edges d)
  pub ring_row : (c : Chain) (d : ℕ) → IsRing r.edges c → Mem d c.edges
      → (length c.inner ≡ length (chain_of r.edges d).inner) × (sum (lengths_of r.edges c.edges) ≡ chain_length r.edges d)
      × (volume_sum (map (volume_at r.edges) c.edges) ≡ chain_volume r.edges d)
  pub no_vertex_twice : (d : ℕ) → d < length r.edges → NoTwice (chain_of r.edges d).inner
  pub same_edges : (c d : ℕ) → d < length r.edges → Mem c (chain_of r.edges d).edges → SameEdges (chain_of r.edges c) (chain_of r.edges d)
  pub same_name : (c d : ℕ) → d < length r.edges → Mem c (chain_of r.edges d).edges → name_of r.edges c ≡ name_of r.edges d
  pub name_in : (d : ℕ) → Mem (name_of r.edges d) (chain_of r.edges d).edges
  pub name_least : (c d : ℕ) → Mem c (chain_of r.edges d).edges → name_of r.edges d ≤ c
  pub sheet_rows : SheetNames r
  pub sheet_lengths : sum (length_column (sheet_numbers r)) ≡ sum (edge_lengths r.edges)
  pub fits_32_bits : (d : ℕ) → d < length r.edges → (chain_length r.edges d < 2 ^ 32) × (chain_volume r.edges d < 2 ^ 32)
  pub unknown_edge : (d : ℕ) → chain_volume r.edges d ≡ 0 → (c : ℕ) × Mem c (chain_of r.edges d).edges × (volume_at r.edges c ≡ 0)
  pub new_ends : (e : Edge) (v : ℕ) → ends_at v e ≡ 1 → is_regular (r.edges ++ (e ∷ [])) v ≡ is_leaf r.edges v
  pub elsewhere : (e : Edge) (v : ℕ) → ends_at v e ≡ 0 → is_regular (r.edges ++ (e ∷ [])) v ≡ is_regular r.edges v

-- ---- 3. Labels

-- A label is 0 exactly at a singular vertex. Those of a chain are consecutive from its low end to its high end, those of a ring once round,
-- and the edge that closed it leads from the highest to the lowest. No two regular vertices wear one label, and each fits 32 bits. So a
-- label in use finds its vertex, with that one's chain or ring, and any other is refused with 8. The search from the newest chain finds the
-- same chain or ring; it has every chain and ring with a label before it, by falling lowest label.
pub record LabelsFind (r : Register) : Type 0 where
  pub singular_zero : (v : ℕ) → is_regular r.edges v ≡ false → label_of r v ≡ 0
  pub zero_singular : (v : ℕ) → label_of r v ≡ 0 → is_regular r.edges v ≡ false
  pub consecutive : (d : ℕ) → d < length r.edges → edge_on_ring r.edges d ≡ false
      → Upwards r (chain_of r.edges d) ⊎ Upwards r (reversed (chain_of r.edges d))
  pub consecutive_round : (d : ℕ) → d < length r.edges → edge_on_ring r.edges d ≡ true → RisesRound r d
  pub no_label_twice : (v w : ℕ) → is_regular r.edges v ≡ true → is_regular r.edges w ≡ true → label_of r v ≡ label_of r w → v ≡ w
  pub fits_32_bits : (v : ℕ) → label_of r v < 2 ^ 32
  pub finds_own : (v : ℕ) → is_regular r.edges v ≡ true → FindsOwn r v (find r (label_of r v))
  pub others_refused : (label : ℕ) → ((v : ℕ) → is_regular r.edges v ≡ true → label_of r v ≢ label) → find r label ≡ refuses 8
  -- document 02, S-3: "every find gives the answer it gave before"
  pub search_finds : (label : ℕ) → chain_in (find r label) ≡ (search r label).holder
  -- "by falling lowest tag": each has a lowest label above those of all behind it
  pub newest_falls : Falling r (newest_first r (up_to (length r.edges)))
  -- the chain or ring of each regular vertex is among them
  pub newest_all : (v : ℕ) → is_regular r.edges v ≡ true → Mem (chain_at r v) (newest_first r (up_to (length r.edges)))

-- ---- 4. Relabellings

-- The total is the sum of the relabellings of the edges landed, those of ring taps among them, and at most n times the whole part of the
-- base-2 logarithm of n.
pub record FewRelabellings (r : Register) (k : Reachable r) : Type 0 where
  pub landed_edges_lem : landed_edges (history k) ≡ r.edges
  pub total_is : r.relabellings ≡ relabelled_by (history k)
  pub bound : 1 ≤ length r.edges → r.relabellings ≤ length r.edges * floor_log (length r.edges)
  pub logarithm : (n : ℕ) → 1 ≤ n → (2 ^ floor_log n ≤ n) × ((j : ℕ) → 2 ^ j ≤ n → j ≤ floor_log n)

-- ---- 5. What is found

-- Document 02, S-7. Whatever is found, the vertex wears the label, lies on the chain or ring that is named, and its two lengths "add up to the
-- run's length, rings included"; in a ring they are 0 and the ring's length. Asked by a vertex, "that goes through the fitting's tag and gives
-- the same four numbers", those of this vertex; and "8 covers both", a vertex that is singular and a number that is not landed.
pub record LengthsAdd (r : Register) : Type 0 where
  pub wears : (label name v low high : ℕ) → find r label ≡ found name v low high → (is_regular r.edges v ≡ true) × (label_of r v ≡ label)
  pub own : (label name v low high : ℕ) → find r label ≡ found name v low high → OwnChain r.edges v name
  pub add_up : (label name v low high : ℕ) → find r label ≡ found name v low high → low + high ≡ chain_length r.edges name
  pub at_itself : (v : ℕ) → is_regular r.edges v ≡ true → FindsOwn r v (find_at r v)
  pub no_other : (w name v low high : ℕ) → find_at r w ≡ found name v low high → v ≡ w
  pub at_singular : (v : ℕ) → is_regular r.edges v ≡ false → find_at r v ≡ refuses 8
  pub not_landed : (v : ℕ) → r.vertices ≤ v → find_at r v ≡ refuses 8
  pub fits_32_bits : (label name v low high : ℕ) → find r label ≡ found name v low high → (low < 2 ^ 32) × (high < 2 ^ 32)

-- ---- 6. Distances

-- What is least over the edges is least over the chains and ring stretches, with stops at singular vertices or at any, and there is no way
-- over the ones exactly if there is none over the others. `measure` answers it. The hops that lead to an end of a chain have the lengths
-- that `find` and the sheet give. Between two vertices of a ring it is the shorter of the two ways round, which together are the ring.
pub record OneDistance (r : Register) : Type 0 where
  pub over_edges : (v w : ℕ) → IsDistance (λ l. Way r.edges v w l) (distance r.edges v w)
  pub over_chains : (v w : ℕ) → IsDistance (λ l. ChainWay r.edges v w l) (distance r.edges v w)
  pub any_stops : (v w : ℕ) → IsDistance (λ l. LooseWay r.edges v w l) (distance r.edges v w)
  -- and is not 2 ^ 32 - 1, which says "not joined"
  pub fits_32_bits : (v w l : ℕ) → distance r.edges v w ≡ joined l → l + 1 < 2 ^ 32
  pub answered : (v w : ℕ) → v < r.vertices → w < r.vertices → measure r v w ≡ measured (distance r.edges v w)
  pub hop_lengths : (d v w : ℕ) → d < length r.edges → Joins (edge_at r.edges d) v w → (length_via r.edges d w ≡ length_to r.edges d v)
      × (is_regular r.edges v ≡ false → length_via r.edges d w ≡ chain_length r.edges d)
  -- off rings a stretch leads to every regular vertex that is met
  pub whole_stretch : (d v w : ℕ) → d < length r.edges → Joins (edge_at r.edges d) v w → edge_on_ring r.edges d ≡ false
      → once_round r.edges d v ≡ onwards r.edges d w
  pub shorter_way : (e v w : ℕ) → e < length r.edges → edge_on_ring r.edges e ≡ true → Mem v (chain_of r.edges e).inner → Mem w (chain_of r.edges e).inner → v ≢ w
      → (c d : ℕ) → incident r.edges v ≡ c ∷ d ∷ [] → ShorterWay r.edges e v w c d

-- ---- 7. Contents

-- What is stored for a register is held, so refusal 21 does not hold of it, and nothing else is held as this register. A vertex and an edge
-- land in either order with the same register. The contents follow from the edges, in the order of landing, and the number of vertices.
pub record ContentsFollow (r : Register) : Type 0 where
  pub holds : held (stored_of r) ≡ some r
  pub nothing_else : (s : Stored) → held s ≡ some r → s ≡ stored_of r
  pub either_order : (e : Edge) (s t : Register) → land_vertex r ≡ landed s → land_edge r e ≡ landed t
      → (land_edge s e ≡ landed (with_vertex t)) × (land_vertex t ≡ landed (with_vertex t))
  pub follow : (s : Register) → Reachable s → r.vertices ≡ s.vertices → r.edges ≡ s.edges → r ≡ s

-- ---- 8. The written list

-- Document 02, S-1. Growing from the list that is written of a register reads it to its end and leaves the register, and so the tables and
-- the head that it was written of. The list follows from the edges and the number of vertices; so does its length.
-- `nursery` has the same of the calls `write` and `grow` (Writing).
pub record WritesBack (r : Register) : Type 0 where
  pub grows_back : grow_list (written r) ≡ record { register = r; stop = whole }
  pub leaves_same : (s : Stored) → held s ≡ some r → stored_of (grow_list (written r)).register ≡ s
  pub same_bytes : (s : Register) → r.vertices ≡ s.vertices → r.edges ≡ s.edges → written r ≡ written s
  pub length_is : length (written r) ≡ 5 + r.vertices + 13 * length r.edges
  pub fits_32_bits : length (written r) < 2 ^ 32

-- ---- 9. One vertex

-- Document 02, S-12. The edges landed relabelled no vertex more often than twice the whole part of the base-2 logarithm of their number, ring
-- taps counted; over all vertices these times add up to the total of theorem 4. `nursery` has the same of series of calls (Times).
-- On a ring and on a chain between two leaves even a single logarithm holds, of the number of its own edges. But "a coupling beside a tee can
-- start small again after a split": that takes the chain on its one side away and leaves it its times. So near the other leaf the number of all
-- edges comes in, and in general a single logarithm is not promised (`needs_two` and `needs_all_edges` in Returning).
pub record FewTimes (r : Register) (k : Reachable r) : Type 0 where
  pub bound : (v : ℕ) → 1 ≤ length r.edges → times_relabelled v (history k) ≤ most_times (length r.edges)
  pub add_up : sum (map (λ v. times_relabelled v (history k)) (up_to max_vertices)) ≡ r.relabellings
  -- once round from v along its edge d
  pub on_ring : (v d : ℕ) → d < length r.edges → ends_at v (edge_at r.edges d) ≡ 1 → edge_on_ring r.edges d ≡ true
      → times_relabelled v (history k) < floor_log (length (once_round r.edges d v) + 1)
  -- the walks from v along its two edges, and these two
  pub between_leaves : (v c d : ℕ) → incident r.edges v ≡ c ∷ d ∷ []
      → is_leaf r.edges (end_onwards r.edges c (far r.edges c v)) ≡ true → is_leaf r.edges (end_onwards r.edges d (far r.edges d v)) ≡ true
      → times_relabelled v (history k) < floor_log (length (onwards r.edges c (far r.edges c v)) + length (onwards r.edges d (far r.edges d v)) + 2)
  -- a walk from v along its edge d
  pub near_leaf : (v d : ℕ) → d < length r.edges → ends_at v (edge_at r.edges d) ≡ 1 → is_regular r.edges v ≡ true
      → is_leaf r.edges (end_onwards r.edges d (far r.edges d v)) ≡ true
      → times_relabelled v (history k) < floor_log (leaf_room (length (onwards r.edges d (far r.edges d v))) (length r.edges))

-- ---- 10. Quotes

-- Document 02, S-5. Any quote may be committed. If it differs in any part from one made now, 32 is given, and only then. If not, its edge lands
-- exactly if it was offered, and then as it was quoted; and one that was declined is refused as it was. All this within any limit on the
-- register's edges. `nursery` has the same of the calls `quote` and `commit` (Quoting).
pub record AsQuoted (limit : ℕ) (r : Register) : Type 0 where
  -- "Landing a list is amended to go through the pair for each pipe"
  pub through_pair : (e : Edge) → commit limit r (quote limit r e) ≡ land_edge_within limit r e
  pub differs : (q : Quote) → q ≢ quote limit r q.asked → commit limit r q ≡ refused 32
  pub only_differs : (q : Quote) → commit limit r q ≡ refused 32 → q ≢ quote limit r q.asked
  pub offered : (q : Quote) (c n : ℕ) → q ≡ quote limit r q.asked → q.terms ≡ offers c n → commit limit r q ≡ landed (with_edge r q.asked)
  pub declined : (q : Quote) (x : ℕ) → q ≡ quote limit r q.asked → q.terms ≡ declines x → commit limit r q ≡ refused x
  pub landed_as : (q : Quote) (r' : Register) → commit limit r q ≡ landed r' → LandedAs r q r'
  -- the first refusal that holds of the edge, or none
  pub declines_first : (e : Edge) (x : ℕ) → edge_refusal limit r e ≡ some x → (quote limit r e).terms ≡ declines x
  pub offers_rest : (e : Edge) → Admissible r e → length r.edges < limit
      → (quote limit r e).terms ≡ offers (case_number (case_at r.edges e)) (relabels_of r e)
  -- S-10: within a limit lands what lands without one, as long as it is not reached; then 36 holds of the rest, and of nothing else
  pub within_lands : (e : Edge) (r' : Register) → land_edge_within limit r e ≡ landed r' → land_edge r e ≡ landed r'
  pub below_limit : (e : Edge) → length r.edges < limit → land_edge_within limit r e ≡ land_edge r e
  pub at_limit : (e : Edge) → Admissible r e → limit ≤ length r.edges → edge_refusal limit r e ≡ some 36
  pub only_at_limit : (e : Edge) → edge_refusal limit r e ≡ some 36 → Admissible r e × (limit ≤ length r.edges)

-- ---- 11. Opened sheets

-- Document 02, S-6. A sheet may be any opening counts and any place. Right after its opening 33 does not hold, and its lines are the register's
-- sheet; more that is landed changes neither. Where 33 does not hold, the counts name a register that landing leaves, of the first vertices and
-- edges, and the lines are its sheet; where it holds by an edge, growing these is refused with 5. S-11: a fetch answers 39 exactly if its count of
-- removals differs; else 33 exactly if it holds, the line at its place and the sheet moved on by one, or done exactly past the last line.
-- Fetching in `nursery` has the same of the calls.
pub record SheetStands (removals : ℕ) (r : Register) : Type 0 where
  pub opened_within : is_beyond r (opening_of removals r) ≡ false
  pub opened_sheet : opened_lines r (opening_of removals r) ≡ sheet r
  -- "however much has been landed since"
  pub still_within : (r' : Register) → LandedSince r r' → (s : OpenSheet) → is_beyond r s ≡ false → is_beyond r' s ≡ false
  pub lines_stay : (r' : Register) → LandedSince r r' → (s : OpenSheet) → is_beyond r s ≡ false → opened_lines r' s ≡ opened_lines r s
  -- "which its opening counts name"
  pub names : (s : OpenSheet) → is_beyond r s ≡ false → NamedIn r s
  pub names_none : (s : OpenSheet) → s.vertices ≤ r.vertices → s.edges ≤ length r.edges → any_beyond s.vertices (opened_edges r s) ≡ true
      → grow_from s.vertices (opened_edges r s) ≡ refused 5
  -- "is ended when it differs"
  pub ended : (s : OpenSheet) → s.removals ≢ removals → fetch removals r s ≡ refuses 39
  pub only_ended : (s : OpenSheet) → fetch removals r s ≡ refuses 39 → s.removals ≢ removals
  pub beyond : (s : OpenSheet) → s.removals ≡ removals → is_beyond r s ≡ true → fetch removals r s ≡ refuses 33
  pub only_beyond : (s : OpenSheet) → fetch removals r s ≡ refuses 33 → (s.removals ≡ removals) × (is_beyond r s ≡ true)
  pub line : (s : OpenSheet) → s.removals ≡ removals → is_beyond r s ≡ false → s.place < length (opened_lines r s)
      → fetch removals r s ≡ fetched (get_or (opened_lines r s) s.place []) (moved_on s)
  pub done : (s : OpenSheet) → s.removals ≡ removals → is_beyond r s ≡ false → length (opened_lines r s) ≤ s.place → fetch removals r s ≡ finished s
  pub only_done : (s s' : OpenSheet) → fetch removals r s ≡ finished s' → (s.removals ≡ removals) × (s' ≡ s) × (length (opened_lines r s) ≤ s.place)
  -- so a place that fetches have moved to fits 16 bits
  pub fits_16_bits : (s : OpenSheet) → length (opened_lines r s) < 2 ^ 16

-- ---- the proofs

regular_new : (es : List Edge) (e : Edge) (v : ℕ) → ends_at v e ≡ 1 → is_regular (es ++ (e ∷ [])) v ≡ is_leaf es v
unfolding is_regular is_leaf
regular_new es e v h = rw (degree_snoc es e v, h, add-one (degree es v)) (eqb-suc-suc (degree es v) 1)

-- a walk away from a singular vertex ends, so its edge lies on no ring
from_singular : (es : List Edge) → Proper es → (d v w : ℕ) → d < length es → Joins (edge_at es d) v w → is_regular es v ≡ false → edge_on_ring es d ≡ false
from_singular es pr d v w h j c =
    let a : At es v d = joins_at es d w v pr h (joins_back (edge_at es d) v w j) in
    ended_ring es pr d h (far es d v) (across es d v pr a).at (singular_ends es pr d v a c)

module _ (r : Register) (k : Reachable r) where
  l : Founded r
  l = founded r k

  pr : Proper r.edges
  pr = l.proper

  -- ---- 1

  walks : (d v : ℕ) → d < length r.edges → ends_at v (edge_at r.edges d) ≡ 1 → edge_on_ring r.edges d ≡ false → Onwards r.edges d v
  walks d v h m t = let a : At r.edges v d = record { inside = h; meets = m } in onwards_ends r.edges pr d v a (off_ring r.edges pr d h t v a)

  still : (e : Edge) (d : ℕ) → Admissible r e → closes_ring r.edges e.first e.second ≡ false → d < length r.edges → edge_on_ring r.edges d ≡ false
      → edge_on_ring (r.edges ++ (e ∷ [])) d ≡ false
  still e d a t h q =
      let x : At r.edges (edge_at r.edges d).first d = first_at r.edges pr d h in
      let n = ends_still r.edges e pr a.lawful.differ t d _ x (off_ring r.edges pr d h q _ x) in
      let y = at_new r.edges e x in
      ended_ring (r.edges ++ (e ∷ [])) (proper_snoc r.edges e pr a.lawful.differ) d y.inside _ y n

  -- each theorem holds of every register that landing leaves
  pub theorem_1 : EndsOrReturns r
  theorem_1 =
      record {
        ends = λ d v h m t. let o = walks d v h m t in rw o.ends_at_lem o.singular;
        is_short = λ d v h m t. (walks d v h m t).is_short;
        bound_enough = λ d v n h m t g. (walks d v h m t).enough n g;
        from_singular = from_singular r.edges pr;
        returns = λ d v h m t. comes_back r.edges pr d v (record { inside = h; meets = m }) t;
        only_rings = back_on_ring r.edges pr;
        lands = edge_lands r;
        ring_closed = λ e a. ring_decides r.edges e pr a.lawful.differ;
        closing_case = closing_case r.edges;
        case_closing = case_closing r.edges;
        still_ends = still;
        ends_elsewhere = λ e d a. still_open r.edges e pr a.lawful.differ d;
        chain_closed = λ e d a t. ring_whole r.edges e pr a.lawful.differ t d;
        ring_stays = λ e d a. still_ring r.edges e pr a.lawful.differ d;
        ring_tapped = λ e d v a. ring_tapped r.edges e pr a.lawful.differ d v;
        ring_opened = λ e d v a. ring_opened r.edges e pr a.lawful.differ d v;
      }

  -- ---- 2

  pub theorem_2 : OneChain r
  theorem_2 =
      record {
        is_chain = chain_is_chain r.edges pr;
        is_ring_lem = ring_is_ring r.edges pr;
        has_edge = chain_has r.edges;
        only_chain = chain_only r.edges pr;
        only_ring = ring_only r.edges pr;
        ring_row = ring_row r.edges pr;
        no_vertex_twice = no_vertex_twice r.edges pr;
        same_edges = chain_again r.edges pr;
        same_name = chain_name r.edges pr;
        name_in = name_in_chain r.edges;
        name_least = name_least r.edges;
        sheet_rows = sheet_names r pr;
        sheet_lengths = sheet_sum r pr;
        fits_32_bits = λ d h. (omega (arith, chains_small r k d h), omega (arith, volume_small r k d h));
        unknown_edge = unknown_edge r.edges;
        new_ends = regular_new r.edges;
        elsewhere = regular_old r.edges;
      }

  -- ---- 3

  f : LabelFacts r
  f = label_facts r k

  pub theorem_3 : LabelsFind r
  theorem_3 =
      record {
        singular_zero = f.singular_zero;
        zero_singular = zero_then r f;
        consecutive = chain_upwards r pr (sided r k);
        consecutive_round = ring_upwards r pr (sided r k);
        no_label_twice = λ v w a b e. f.unique v w (is_two r.edges v a) (is_two r.edges w b) e;
        fits_32_bits = λ v. omega (arith, labels_small r k v);
        finds_own = finds_chain r l (sided r k) f;
        others_refused = find_none r;
        search_finds = search_finds r l f;
        newest_falls = falling r l f;
        newest_all = own_newest r l f;
      }

  -- ---- 4

  pub theorem_4 : FewRelabellings r k
  theorem_4 =
      record {
        landed_edges_lem = (history_told r k).edges_are;
        total_is = (history_told r k).total_is;
        bound = λ h. f.bound;
        logarithm = λ n h. (floor_log_fits n h, floor_log_most n);
      }

  -- ---- 5

  at_itself : (v : ℕ) → is_regular r.edges v ≡ true → FindsOwn r v (find_at r v)
  unfolding find_at
  at_itself v c = finds_chain r l (sided r k) f v c

  pub theorem_5 : LengthsAdd r
  theorem_5 =
      record {
        wears = λ label name v low high e. let w = found_wears r l (sided r k) label name v low high e in (w.0, w.1.0);
        own = λ label name v low high e. (found_adds r l (sided r k) label name v low high e).0;
        add_up = λ label name v low high e. (found_adds r l (sided r k) label name v low high e).1;
        at_itself = at_itself;
        no_other = found_at_lem r l (sided r k) f;
        at_singular = find_singular r f;
        not_landed = find_not_landed r l f;
        fits_32_bits = λ label name v low high e.
            let o = found_adds r l (sided r k) label name v low high e in
            let most : low + high ≤ 409600000 = omega (arith, o.1, chains_small r k name o.0.inside) in
            (omega arith, omega arith);
      }

  -- ---- 6

  pub theorem_6 : OneDistance r
  theorem_6 =
      record {
        over_edges = is_distance r.edges;
        over_chains = λ v w. chains_distance r.edges pr v w (distance r.edges v w) (is_distance r.edges v w);
        any_stops = λ v w. loose_distance r.edges pr v w (distance r.edges v w) (is_distance r.edges v w);
        fits_32_bits = λ v w l e. omega (arith, distances_small r k v w l e);
        answered = measure_is r;
        hop_lengths = hop_lengths r.edges pr;
        whole_stretch = round_open r.edges pr;
        shorter_way = shorter_way r.edges pr;
      }

  -- ---- 7

  pub theorem_7 : ContentsFollow r
  theorem_7 =
      record {
        holds = kept_held r (kept r k);
        nothing_else = λ s h. (only_held s r h).stored_is;
        either_order = λ e s t h g. either_order r e s t h g;
        follow = λ s g v e. same_contents r s k g v e;
      }

  -- ---- 8

  pub theorem_8 : WritesBack r
  theorem_8 =
      record {
        grows_back = written_grows r k;
        leaves_same = λ s h. ap (λ (d : Read). stored_of d.register) (written_grows r k) ∙ sym (only_held s r h).stored_is;
        same_bytes = written_same r;
        length_is = written_length r;
        fits_32_bits = omega (arith, written_length r, l.few, l.room);
      }

  -- ---- 9

  pub theorem_9 : FewTimes r k
  theorem_9 =
      record {
        bound = λ v h. few_times r k v;
        add_up = times_add_up r k;
        on_ring = λ v d h m. times_on_ring r k v d (record { inside = h; meets = m });
        between_leaves = times_between_leaves r k;
        near_leaf = λ v d h m c. times_near_leaf r k v d c (record { inside = h; meets = m });
      }

  -- ---- 10

  pub theorem_10 : (limit : ℕ) → AsQuoted limit r
  theorem_10 limit =
      record {
        through_pair = through_pair limit r;
        differs = commit_differs limit r;
        only_differs = commit_32 limit r;
        offered = quoted_lands limit r;
        declined = quoted_declines limit r;
        landed_as = landed_as limit r pr;
        declines_first = quoted_some limit r;
        offers_rest = λ e a b. quoted_none limit r e (no_refusal limit r e a b);
        within_lands = within_lands limit r;
        below_limit = below_limit limit r;
        at_limit = at_limit limit r;
        only_at_limit = only_at_limit limit r;
      }

  -- ---- 11

  pub theorem_11 : (removals : ℕ) → SheetStands removals r
  theorem_11 removals =
      record {
        opened_within = opened_within removals r k;
        opened_sheet = opened_sheet removals r;
        still_within = λ r' l. still_within r r' l;
        lines_stay = λ r' l. lines_stay r r' l;
        names = named r k;
        names_none = beyond_refused r k;
        ended = fetch_ended removals r;
        only_ended = only_ended removals r;
        beyond = fetch_beyond removals r;
        only_beyond = only_beyond removals r;
        line = fetch_line_lem removals r;
        done = fetch_done removals r;
        only_done = only_done removals r;
        fits_16_bits = λ s. omega (arith, lines_few r k s);
      }
