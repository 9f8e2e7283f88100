-- What the houses keep of the licence, one by one.
use mathlib.Core.Path.{◌≡◌, refl, sym, ap, ◌∙◌}
use mathlib.Core.Logic.{◌≢◌}
use Prim.Native.Nat.{ℕ, suc, ◌+◌, ◌≤◌, ◌<◌, max}
use native.Mathlib.Omega.{arith}
use native.Mathlib.Decide.{dec_lt}
use native.Mathlib.Numerals.{add-one}
use mathlib.Core.List.{List}
use lib.ListN.{length, get_or, set, drop, length-set, drop_of_length-le, get_or-eq_default, get_or-map}
use lib.Seq.{drop-cons, get_or-set_same, get_or-set_other}
use Rattle.model.specs.Basics.{sum}
use Rattle.model.specs.Tables.{Counts, no_counts}
use Rattle.nursery.specs.Licence.{houses, reserves}
use Rattle.heads.specs.declared.heads.Heads.{Heads}
use Rattle.heads.specs.Meaning.{as_heads, edges_of}
use Rattle.nursery.proofs.Licence.{reserve_at, reserves_long}

-- the house that is asked about keeps nothing
pub kept_own : (ss ns : List ℕ) (h house : ℕ) → h ≡ house → 0 ≡ get_or (set (reserves ss ns) house 0) h 0
kept_own ss ns h house e = sym (ap (λ (k : ℕ). get_or (set rs house 0) k 0) e ∙ go (dec_lt house (length rs)))
  where
    rs : List ℕ
    rs = reserves ss ns

    go : Dec (house < length rs) → get_or (set rs house 0) house 0 ≡ 0
    go (yes l) = get_or-set_same rs house 0 0 l
    go (no l) = get_or-eq_default (set rs house 0) 0 (omega (arith, l, length-set rs house 0))

-- the edges of one house, as its head counts them
pub edges_at_lem : (heads : Heads) (h : ℕ) → get_or (edges_of heads) h 0 ≡ (get_or (as_heads heads) h no_counts).edges
unfolding edges_of no_counts
edges_at_lem heads h = get_or-map (λ (c : Counts). c.edges) (as_heads heads) h no_counts

pub eight_edges : (heads : Heads) → length (edges_of heads) ≡ houses
unfolding edges_of as_heads
eight_edges heads = refl

-- any other keeps the larger of share and edges
pub kept_other : (ss : List ℕ) (heads : Heads) (h house r s : ℕ) (own : Counts) → length ss ≡ houses → h < houses → h ≢ house → s ≡ get_or ss h 0
    → own ≡ get_or (as_heads heads) h no_counts → r ≡ max s own.edges → r ≡ get_or (set (reserves ss (edges_of heads)) house 0) h 0
kept_other ss heads h house r s own eight l d p q e =
    let ns = edges_of heads in
    let n : own.edges ≡ get_or ns h 0 = ap (λ (c : Counts). c.edges) q ∙ sym (edges_at_lem heads h) in
    let m : r ≡ max (get_or ss h 0) (get_or ns h 0) = rw (← p, ← n) e in
    m ∙ sym (reserve_at ss ns h (eight ∙ sym (eight_edges heads)) (omega (arith, l, eight))) ∙ sym (get_or-set_other (reserves ss ns) house h 0 0 d)

-- ---- one after the other

-- all but one house, as a list
eight_kept : (ss : List ℕ) (heads : Heads) (house : ℕ) → length ss ≡ houses → length (set (reserves ss (edges_of heads)) house 0) ≡ houses
eight_kept ss heads house e =
    length-set (reserves ss (edges_of heads)) house 0 ∙ reserves_long ss (edges_of heads) (e ∙ sym (eight_edges heads)) ∙ e

-- one house more
pub sum_on : (ss : List ℕ) (heads : Heads) (house h n m : ℕ) → length ss ≡ houses → h < 8 → m ≡ get_or (set (reserves ss (edges_of heads)) house 0) h 0
    → n + sum (drop h (set (reserves ss (edges_of heads)) house 0)) ≡ sum (set (reserves ss (edges_of heads)) house 0)
    → (n + m) + sum (drop (h + 1) (set (reserves ss (edges_of heads)) house 0)) ≡ sum (set (reserves ss (edges_of heads)) house 0)
unfolding sum
sum_on ss heads house h n m eight l e q =
    let xs = set (reserves ss (edges_of heads)) house 0 in
    let d : sum (drop h xs) ≡ get_or xs h 0 + sum (drop (suc h) xs) = ap sum (drop-cons xs h 0 (omega (arith, l, eight_kept ss heads house eight))) in
    let j : sum (drop (h + 1) xs) ≡ sum (drop (suc h) xs) = ap (λ (i : ℕ). sum (drop i xs)) (add-one h) in
    omega (arith, d, j, e, q)

-- after the last
pub sum_all : (ss : List ℕ) (heads : Heads) (house h n : ℕ) → length ss ≡ houses → 8 ≤ h
    → n + sum (drop h (set (reserves ss (edges_of heads)) house 0)) ≡ sum (set (reserves ss (edges_of heads)) house 0)
    → n ≡ sum (set (reserves ss (edges_of heads)) house 0)
unfolding sum
sum_all ss heads house h n eight a q =
    let xs = set (reserves ss (edges_of heads)) house 0 in
    let z : sum (drop h xs) ≡ 0 = ap sum (drop_of_length-le xs {i = h} (omega (arith, a, eight_kept ss heads house eight))) in
    omega (arith, z, q)
