-- The rows of the chains and rings and the sheet, by walks over the tables and by marks.
use mathlib.Core.Path.{◌≡◌, refl, sym, ap, ◌∙◌, subst}
use mathlib.Core.Logic.{◌⊎◌, inl, inr}
use Prim.Native.Nat.{ℕ, zero, suc, ◌+◌, ◌≤◌, ◌<◌, min, max}
use native.Mathlib.Omega.{arith}
use native.Mathlib.Decide.{ℕ_discrete}
use native.Mathlib.Nat.{not-suc-le-zero}
use mathlib.Core.Bool.{true, false}
use mathlib.Core.List.{List, [], ◌∷◌, ◌++◌, map, reverse}
use lib.ListN.{length, get_or, replicate, length-append, length-map, length-replicate, length-reverse, get_or-replicate}
use borrow.Author.Tests.{eq-eqb, ne_eqb}
use Rattle.model.specs.Basics.{count_from, least, max_edges, sum, up_to}
use Rattle.model.specs.Graph.{Edge, Pass, after_of, at_of, chain_length, chain_of, edge_at, end_onwards, length_at, lengths_of, name_of, edge_on_ring, onwards, open_chain, ring_chain, once_round, until, volume_at, walk}
use Rattle.model.specs.Register.{Register}
use Rattle.model.specs.Queries.{row, rows_of, sheet}
use Rattle.model.specs.Tables.{Tables, counts_of, tables_of}
use Rattle.model.specs.Notions.{Reachable}
use Rattle.tables.specs.Steps.{most32}
use Rattle.tables.proofs.Sums.{sum32_is}
use Rattle.chains.specs.Chains.{names_in, row_in, rows_in, sheet_in, sweep_in}
use Rattle.chains.proofs.SheetLaws.{sheet_count}
use Rattle.model.proofs.Basics.Booleans.{true_or_false}
use Rattle.model.proofs.Walks.Turn.{At}
use Rattle.model.proofs.Basics.Lists.{weights_append, weights_reverse}
use Rattle.model.proofs.Basics.Volumes.{volume_fold, volume_most, volume_onto}
use Rattle.model.proofs.Chains.Same.{chain_open, chain_ring}
use Rattle.model.proofs.Chains.Reaches.{along, chain_by_walks}
use Rattle.model.proofs.Chains.Volumes.{chain_volume_lem, passed, ring_volume}
use Rattle.model.proofs.Registers.ReadBack.{first_read, second_read}
use Rattle.theory.proofs.Registers.Small.{chains_small, volumes_small}
use Rattle.agreement.proofs.Registers.{room}
use Rattle.agreement.proofs.Chaining.{at_first, at_second, length_is, lower, volume_is, volume_over, walk_volumes, walk_over, walked_by, walks}
use Rattle.agreement.proofs.Ends.{Ends, chain_ends}
use Rattle.agreement.proofs.Lowest.{least_lower}
use Rattle.agreement.proofs.Marking.{MarksAt, fresh_name, marked_not, marks_on, marks_stay}

-- ---- one row

-- a row by the walks from the edge's two ends a and b
abbrev row_by : List Edge → ℕ → ℕ → ℕ → List ℕ
row_by es d a b =
    d ∷ min (end_onwards es d a) (end_onwards es d b) ∷ max (end_onwards es d a) (end_onwards es d b) ∷
    (length (onwards es d a) + length (onwards es d b)) ∷ (along es d a + (length_at es d + along es d b)) ∷
    volume_onto (volume_onto (volume_at es d) (passed es (onwards es d b))) (passed es (onwards es d a)) ∷ []

-- a ring's, by its passes from a on
abbrev ring_by : List Edge → ℕ → ℕ → List Pass → List ℕ
ring_by es d a ss =
    d ∷ lower (map at_of ss) a ∷ lower (map at_of ss) a ∷ (1 + length ss) ∷ (length_at es d + sum (lengths_of es (map after_of ss))) ∷
    volume_onto (volume_at es d) (passed es ss) ∷ []

inner_is : (xs ys : List Pass) → length (reverse (map at_of xs) ++ map at_of ys) ≡ length xs + length ys
inner_is xs ys =
    omega (arith, length-append (reverse (map at_of xs)) (map at_of ys), length-reverse (map at_of xs), length-map xs at_of, length-map ys at_of)

row_open : (es : List Edge) (d : ℕ) → edge_on_ring es d ≡ false → row es d ≡ row_by es d (edge_at es d).first (edge_at es d).second
unfolding row open_chain end_onwards
row_open es d f =
    let back : List Pass = onwards es d (edge_at es d).first in
    let on : List Pass = onwards es d (edge_at es d).second in
    rw (chain_by_walks es d f, chain_volume_lem es d f, chain_open es d f, inner_is back on)

ring_sum : (es : List Edge) (d : ℕ) → edge_on_ring es d ≡ true
    → chain_length es d ≡ length_at es d + sum (lengths_of es (map after_of (once_round es d (edge_at es d).first)))
unfolding chain_length ring_chain sum lengths_of
ring_sum es d t = rw (chain_ring es d t)

row_ring : (es : List Edge) (d : ℕ) → edge_on_ring es d ≡ true → row es d ≡ ring_by es d (edge_at es d).first (once_round es d (edge_at es d).first)
unfolding row ring_chain
row_ring es d t =
    let a : ℕ = (edge_at es d).first in
    let ss : List Pass = once_round es d a in
    let x : ℕ = lower (map at_of ss) a in
    let l : least a (map at_of ss) ≡ x = least_lower a (map at_of ss) in
    let i : min x x ≡ x = omega arith in
    let j : max x x ≡ x = omega arith in
    let k : suc (length (map at_of ss)) ≡ 1 + length ss = omega (arith, length-map ss at_of) in
    rw (ring_sum es d t, ring_volume es d t, chain_ring es d t, l, i, j, k)

-- ---- its volume

-- what is known after the walk from the second end on, and, on a chain, after the walk from the first end on too
ring_total : (es : List Edge) (d : ℕ) → edge_on_ring es d ≡ true
    → sum (map (volume_at es) (chain_of es d).edges) ≡ volume_at es d + sum (passed es (once_round es d (edge_at es d).first))
unfolding ring_chain sum
ring_total es d t = rw (chain_ring es d t)

open_total : (es : List Edge) (d : ℕ) → edge_on_ring es d ≡ false
    → sum (map (volume_at es) (chain_of es d).edges)
    ≡ sum (passed es (onwards es d (edge_at es d).first)) + (volume_at es d + sum (passed es (onwards es d (edge_at es d).second)))
unfolding open_chain sum
open_total es d f =
    let back : List ℕ = map after_of (onwards es d (edge_at es d).first) in
    let on : List ℕ = map after_of (onwards es d (edge_at es d).second) in
    rw (chain_open es d f) (omega (arith, weights_append (volume_at es) (reverse back) (d ∷ on), weights_reverse (volume_at es) back))

onto_most : (known : ℕ) (vs : List ℕ) → volume_onto known vs ≤ known + sum vs
unfolding sum
onto_most known vs = omega (arith, volume_fold known vs, volume_most (known ∷ vs))

-- a walk that passes `ss`
volume_along : (r : Register) → Reachable r → (home known d v : ℕ) (ss : List Pass) → At r.edges v d
    → until home (walk (length r.edges) r.edges d v) ≡ ss → known + sum (passed r.edges ss) ≤ most32
    → volume_over (tables_of r) home (length r.edges) known d v ≡ volume_onto known (passed r.edges ss)
volume_along r g home known d v ss a e f =
    let es : List Edge = r.edges in
    walk_volumes r g home (length es) known d v a (subst (λ (us : List Pass). known + sum (passed es us) ≤ most32) (sym e) f)
    ∙ ap (λ (us : List Pass). volume_onto known (passed es us)) e

-- ---- the row over the tables

abbrev row_over : Tables → ℕ → ℕ → List ℕ
row_over t = row_in t.degrees t.sides t.ends t.lengths t.volumes

pub row_agrees : (r : Register) → Reachable r → (d : ℕ) → d < length r.edges → row_over (tables_of r) (length r.edges) d ≡ row r.edges d
unfolding row_in
row_agrees r g d h = by (chain_ends r g d h) (true_or_false (edge_on_ring es d))
  where
    es : List Edge
    es = r.edges

    t : Tables
    t = tables_of r

    a : ℕ
    a = (edge_at es d).first

    b : ℕ
    b = (edge_at es d).second

    first : walk_over t a (length es) d b ≡ walked_by es a b (until a (walk (length es) es d b))
    first = walks r g a (length es) d b (room r g) (at_second r g d h)

    second : walk_over t (end_onwards es d b) (length es) d a ≡ walked_by es (end_onwards es d b) a (until (end_onwards es d b) (walk (length es) es d a))
    second = walks r g (end_onwards es d b) (length es) d a (room r g) (at_first r g d h)

    by : Ends r d → (edge_on_ring es d ≡ true) ⊎ (edge_on_ring es d ≡ false) → row_over t (length es) d ≡ row es d
    by e (inl q) =
        let k = e.ring q in
        let ss : List Pass = once_round es d a in
        let known = volume_along r g a (volume_at es d) d b ss (at_second r g d h) k.passed (omega (arith, ring_total es d q, volumes_small r g d h)) in
        rw (
          first_read r d h,
          second_read r d h,
          volume_is r d h,
          known,
          first,
          k.passed,
          k.ends_at_lem,
          eq-eqb _ _ k.two,
          length_is r d h,
          sum32_is (length_at es d) (sum (lengths_of es (map after_of ss))) (omega (arith, ring_sum es d q, chains_small r g d h)),
        )
        (sym (row_ring es d q))
    by e (inr q) =
        let k = e.chain q in
        let on : List Pass = onwards es d b in
        let so_far : ℕ = volume_onto (volume_at es d) (passed es on) in
        let total = open_total es d q in
        let small = volumes_small r g d h in
        let known = volume_along r g a (volume_at es d) d b on (at_second r g d h) k.passed (omega (arith, total, small)) in
        let all = volume_along r g (end_onwards es d b) so_far d a (onwards es d a) (at_first r g d h) k.back (omega (arith, onto_most (volume_at es d) (passed es on), total, small)) in
        rw (
          first_read r d h,
          second_read r d h,
          volume_is r d h,
          known,
          first,
          k.passed,
          k.ends_at_lem,
          ne_eqb _ _ k.not_two,
          second,
          k.back,
          k.back_ends,
          all,
          length_is r d h,
          sum32_is (length_at es d) (along es d b) (omega (arith, chain_by_walks es d q, chains_small r g d h)),
          sum32_is (along es d a) (length_at es d + along es d b) (omega (arith, chain_by_walks es d q, chains_small r g d h)),
        )
        (sym (row_open es d q))

-- ---- the rows

abbrev rows_over : Tables → ℕ → List ℕ → List (List ℕ)
rows_over t = rows_in t.degrees t.sides t.ends t.lengths t.volumes

abbrev sweep_over : Tables → ℕ → ℕ → List ℕ → ℕ → List ℕ
sweep_over t = sweep_in t.degrees t.sides t.ends

module _ (r : Register) (g : Reachable r) where
  swept : (k : ℕ) (ms : List ℕ) (d : ℕ) → d + k ≡ length r.edges → MarksAt r.edges d ms
      → rows_over (tables_of r) (length r.edges) (sweep_over (tables_of r) (length r.edges) k ms d) ≡ rows_of r.edges (count_from d k)
  unfolding rows_in sweep_in rows_of count_from
  swept zero ms d h m = refl
  swept (suc k) ms d h m = go (ℕ_discrete (get_or ms d 0) 0) (λ ns i. swept k ns (suc d) (omega arith) i)
    where
      es : List Edge
      es = r.edges

      t : Tables
      t = tables_of r

      l : d < length es
      l = omega arith

      go : Dec (get_or ms d 0 ≡ 0)
          → ((ns : List ℕ) → MarksAt es (suc d) ns → rows_over t (length es) (sweep_over t (length es) k ns (suc d)) ≡ rows_of es (count_from (suc d) k))
          → rows_over t (length es) (sweep_over t (length es) (suc k) ms d) ≡ rows_of es (d ∷ count_from (suc d) k)
      go (yes z) ih =
          rw (eq-eqb (get_or ms d 0) 0 z, sweep_in, eq-eqb (name_of es d) d (fresh_name r g d l ms m z), rows_of, row_agrees r g d l)
          (ap (λ (rows : List (List ℕ)). row es d ∷ rows) (ih _ (marks_on r g d l ms m z)))
      go (no n) ih =
          let less = marked_not r g d l ms m n in
          rw (ne_eqb (get_or ms d 0) 0 n, sweep_in, ne_eqb (name_of es d) d (λ e. omega (arith, less, e)), rows_of) (ih ms (marks_stay r g d l ms m n))

  -- at the start no edge has a mark
  unmarked : (m : ℕ) → max_edges ≤ m → MarksAt r.edges 0 (replicate m 0)
  unmarked m h =
      record {
        long = rw length-replicate (omega (arith, room r g));
        fresh = λ e b l f. get_or-replicate {A = ℕ} m e 0 0 (omega (arith, l, room r g));
        passed = λ e b l f. absurd (not-suc-le-zero f);
      }

-- the sheet over marks that are all zero at the start, one for each edge or more
abbrev pub sheet_over : Tables → ℕ → ℕ → List (List ℕ)
sheet_over t n m = sheet_in t.degrees t.sides t.ends t.lengths t.volumes n (replicate m 0)

-- the sheet over the tables is that of the definitions
pub sheet_agrees : (r : Register) → Reachable r → (m : ℕ) → max_edges ≤ m → sheet_over (tables_of r) (counts_of r).edges m ≡ sheet r
unfolding sheet_in names_in sheet up_to counts_of
sheet_agrees r g m h = swept r g (length r.edges) (replicate m 0) 0 (omega arith) (unmarked r g m h)

-- as many names are counted as the sheet has rows
pub names_counted : (r : Register) → Reachable r → (m : ℕ) → max_edges ≤ m
    → length (names_in (tables_of r).degrees (tables_of r).sides (tables_of r).ends (counts_of r).edges (replicate m 0)) ≡ length (sheet r)
names_counted r g m h =
    sym (sheet_count (tables_of r).degrees (tables_of r).sides (tables_of r).ends (tables_of r).lengths (tables_of r).volumes (counts_of r).edges (replicate m 0))
    ∙ ap (λ (rows : List (List ℕ)). length rows) (sheet_agrees r g m h)
