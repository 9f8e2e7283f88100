-- The marks: those on a walk, those on a chain; and at edge d the edges from d on that have a mark are those whose name is below d.
use mathlib.Core.Path.{◌≡◌, refl, sym, ap, ◌∙◌, subst}
use mathlib.Core.Logic.{◌≢◌, ◌⊎◌, inl, inr}
use Prim.Native.Nat.{ℕ, zero, suc, ◌≤◌, ◌<◌}
use native.Mathlib.Omega.{arith}
use native.Mathlib.Decide.{ℕ_discrete, dec_lt}
use mathlib.Core.Bool.{Bool, true, false}
use mathlib.Core.List.Memᴰ
use mathlib.Core.List.Memᴰ.{append_cases}
use mathlib.Core.List.Memᴰ.{cases_cons as mem-cases}
use mathlib.Core.List.Memᴰ.{head as at_head}
use mathlib.Core.List.Memᴰ.{tail as in_Tail}
use mathlib.Core.List.{List, [], ◌∷◌, ◌++◌, map, reverse, reverse-reverse, Memᴰ as Mem}
use lib.ListN.{length, get_or, set, length-set}
use lib.Seq.{get_or-set_same, get_or-set_other}
use borrow.Author.Tests.{eq-eqb, ne_eqb}
use Rattle.model.specs.Graph.{Chain, Edge, Pass, after_of, chain_of, edge_at, end_of, end_onwards, far, name_of, edge_on_ring, onwards, open_chain, ring_chain, once_round, turn, until, walk}
use Rattle.model.specs.Register.{Register}
use Rattle.model.specs.Tables.{Tables, tables_of}
use Rattle.model.specs.Notions.{Reachable}
use Rattle.chains.specs.Chains.{Marked, goes_on_in, marked, mark_in, mark_chain_in}
use Rattle.chains.proofs.NameLaws.{mark_on, mark_stop}
use Rattle.model.proofs.Basics.Booleans.{true_or_false}
use Rattle.model.proofs.Basics.Lists.{mem_reverse}
use Rattle.model.proofs.Walks.Turn.{At}
use Rattle.model.proofs.Chains.Same.{chain_open, chain_ring}
use Rattle.model.proofs.Chains.Partition.{chain_back, chain_name, name_in_chain, name_least, chain_has}
use Rattle.model.proofs.Registers.ReadBack.{first_read, second_read}
use Rattle.agreement.proofs.Registers.{proper}
use Rattle.agreement.proofs.Chaining.{First, at_end, at_home, onward, Step, at_first, at_second, before_home, before_none, before_on, first_step, goes_home, goes_not, goes_on, steps}
use Rattle.agreement.proofs.Ends.{Ends, chain_ends}

-- ---- marks on a list of edges

unfoldable pub mark_all : List ℕ → List ℕ → List ℕ
mark_all ms [] = ms
mark_all ms (c ∷ cs) = mark_all (set ms c 1) cs

pub mark_long : (ms cs : List ℕ) → length (mark_all ms cs) ≡ length ms
unfolding mark_all
mark_long ms [] = refl
mark_long ms (c ∷ cs) = mark_long (set ms c 1) cs ∙ length-set ms c 1

set_keeps : (ms : List ℕ) (c e : ℕ) → e < length ms → get_or ms e 0 ≢ 0 → get_or (set ms c 1) e 0 ≢ 0
set_keeps ms c e l h = go (ℕ_discrete e c)
  where
    go : Dec (e ≡ c) → get_or (set ms c 1) e 0 ≢ 0
    go (yes q) =
        let s : get_or (set ms c 1) e 0 ≡ 1 = subst (λ (x : ℕ). get_or (set ms x 1) e 0 ≡ 1) q (get_or-set_same ms e 1 0 l) in
        λ z. omega (arith, z, s)
    go (no n) = λ z. h (sym (get_or-set_other ms c e 1 0 n) ∙ z)

pub mark_keeps : (ms cs : List ℕ) (e : ℕ) → e < length ms → get_or ms e 0 ≢ 0 → get_or (mark_all ms cs) e 0 ≢ 0
unfolding mark_all
mark_keeps ms [] e l h = h
mark_keeps ms (c ∷ cs) e l h = mark_keeps (set ms c 1) cs e (rw length-set l) (set_keeps ms c e l h)

pub mark_in_lem : (ms cs : List ℕ) (e : ℕ) → e < length ms → Mem e cs → get_or (mark_all ms cs) e 0 ≢ 0
unfolding mark_all
mark_in_lem ms [] e l m = elim m [ ]
mark_in_lem ms (c ∷ cs) e l m = go (mem-cases m) (λ k. mark_in_lem (set ms c 1) cs e (rw length-set l) k)
  where
    go : (e ≡ c) ⊎ Mem e cs → (Mem e cs → get_or (mark_all (set ms c 1) cs) e 0 ≢ 0) → get_or (mark_all (set ms c 1) cs) e 0 ≢ 0
    go (inl q) ih = mark_keeps (set ms c 1) cs e (rw length-set l) (λ z. omega (arith, z, same q))
      where
        same : e ≡ c → get_or (set ms c 1) e 0 ≡ 1
        same q = rw (← q) (get_or-set_same ms e 1 0 l)
    go (inr k) ih = ih k

pub mark_out : (ms cs : List ℕ) (e : ℕ) → (Mem e cs → ⊥) → get_or (mark_all ms cs) e 0 ≡ get_or ms e 0
unfolding mark_all
mark_out ms [] e n = refl
mark_out ms (c ∷ cs) e n = mark_out (set ms c 1) cs e (λ m. n (in_Tail m)) ∙ get_or-set_other ms c e 1 0 (λ q. n (at_head q))

-- ---- marks on a walk

abbrev mark_over : Tables → ℕ → ℕ → List ℕ → ℕ → ℕ → Marked
mark_over t = mark_in t.degrees t.sides t.ends

abbrev marked_by : List Edge → List ℕ → ℕ → List Pass → Marked
marked_by es ms v ss = marked (mark_all ms (map after_of ss)) (end_of es v ss)

mark_agrees : (r : Register) → Reachable r → (home n : ℕ) (ms : List ℕ) (d v : ℕ) → At r.edges v d
    → mark_over (tables_of r) home n ms d v ≡ marked_by r.edges ms v (until home (walk n r.edges d v))
unfolding mark_in walk until mark_all after_of end_of
mark_agrees r g home zero ms d v a = refl
mark_agrees r g home (suc n) ms d v a = go (first_step r home v) (λ c at. mark_agrees r g home n (set ms c 1) c (far es c v) at)
  where
    es : List Edge
    es = r.edges

    t : Tables
    t = tables_of r

    Goal : Type 0
    Goal = mark_over t home (suc n) ms d v ≡ marked_by es ms v (until home (walk (suc n) es d v))

    stop : goes_on_in t.degrees home v ≡ false → until home (walk (suc n) es d v) ≡ [] → Goal
    stop q e = rw (e, ← mark_stop t.degrees t.sides t.ends home (suc n) ms d v q)

    go : First r home v
        → ((c : ℕ) → At es (far es c v) c → mark_over t home n (set ms c 1) c (far es c v) ≡ marked_by es (set ms c 1) (far es c v) (until home (walk n es c (far es c v)))) → Goal
    go (at_end q) ih = stop (goes_not r g home d v a q) (before_none home n es d v q)
    go (at_home q e) ih = stop (goes_home r g home d v a e) (before_home home n es d v q e)
    go (onward q e) ih =
        let c : ℕ = turn es d v in
        let y : Step r d v = steps r g d v a q in
        rw (
          before_on home n es d v q e,
          mark_on t.degrees t.sides t.ends home n ms d v c (far es c v) (goes_on r g home d v a q e) y.turns y.arrives,
          ih c y.at,
        )

-- ---- marks on a chain

abbrev pub mark_chain_over : Tables → ℕ → List ℕ → ℕ → List ℕ
mark_chain_over t = mark_chain_in t.degrees t.sides t.ends

-- all of some edges but d have marks, and no other edge has a new one
pub record ChainMarked (xs ms : List ℕ) (d : ℕ) (ns : List ℕ) : Type 0 where
  pub as_long : length ns ≡ length ms
  pub keeps : (e : ℕ) → e < length ms → get_or ms e 0 ≢ 0 → get_or ns e 0 ≢ 0
  pub marks : (e : ℕ) → e < length ms → e ≢ d → Mem e xs → get_or ns e 0 ≢ 0
  pub others : (e : ℕ) → (Mem e xs → ⊥) → get_or ns e 0 ≡ get_or ms e 0

ring_edges_lem : (es : List Edge) (d : ℕ) → edge_on_ring es d ≡ true → (chain_of es d).edges ≡ d ∷ map after_of (once_round es d (edge_at es d).first)
unfolding ring_chain
ring_edges_lem es d t = ap (λ (c : Chain). c.edges) (chain_ring es d t)

open_edges : (es : List Edge) (d : ℕ) → edge_on_ring es d ≡ false
    → (chain_of es d).edges ≡ reverse (map after_of (onwards es d (edge_at es d).first)) ++ (d ∷ map after_of (onwards es d (edge_at es d).second))
unfolding open_chain
open_edges es d f = ap (λ (c : Chain). c.edges) (chain_open es d f)

ring_marked : (ms : List ℕ) (d : ℕ) (cs : List ℕ) → ChainMarked (d ∷ cs) ms d (mark_all ms cs)
ring_marked ms d cs =
    record {
      as_long = mark_long ms cs;
      keeps = mark_keeps ms cs;
      marks = λ e l n m. mark_in_lem ms cs e l (other e d cs n (mem-cases m));
      others = λ e n. mark_out ms cs e (λ m. n (in_Tail m));
    }
  where
    other : (e d : ℕ) (cs : List ℕ) → e ≢ d → (e ≡ d) ⊎ Mem e cs → Mem e cs
    other e d cs n (inl q) = absurd (n q)
    other e d cs n (inr m) = m

open_marked : (ms : List ℕ) (d : ℕ) (bs cs : List ℕ) → ChainMarked (reverse bs ++ (d ∷ cs)) ms d (mark_all (mark_all ms cs) bs)
open_marked ms d bs cs =
    let l₁ : length (mark_all ms cs) ≡ length ms = mark_long ms cs in
    record {
      as_long = mark_long (mark_all ms cs) bs ∙ l₁;
      keeps = λ e l h. mark_keeps (mark_all ms cs) bs e (rw l₁ l) (mark_keeps ms cs e l h);
      marks = λ e l n m. both e d bs cs n l (rw l₁ l) (append_cases (reverse bs) m);
      others = λ e n.
          mark_out (mark_all ms cs) bs e (λ m. n (Memᴰ.append_left (d ∷ cs) (mem_reverse e bs m)))
          ∙ mark_out ms cs e (λ m. n (Memᴰ.append_right (reverse bs) (in_Tail m)));
    }
  where
    both : (e d : ℕ) (bs cs : List ℕ) → e ≢ d → e < length ms → e < length (mark_all ms cs) → Mem e (reverse bs) ⊎ Mem e (d ∷ cs)
        → get_or (mark_all (mark_all ms cs) bs) e 0 ≢ 0
    both e d bs cs n l k (inl m) = mark_in_lem (mark_all ms cs) bs e k (subst (λ (xs : List ℕ). Mem e xs) (reverse-reverse bs) (mem_reverse e (reverse bs) m))
    both e d bs cs n l k (inr m) = go (mem-cases m)
      where
        go : (e ≡ d) ⊎ Mem e cs → get_or (mark_all (mark_all ms cs) bs) e 0 ≢ 0
        go (inl q) = absurd (n q)
        go (inr m) = mark_keeps (mark_all ms cs) bs e k (mark_in_lem ms cs e l m)

pub chain_marked : (r : Register) → Reachable r → (ms : List ℕ) (d : ℕ) → d < length r.edges
    → ChainMarked (chain_of r.edges d).edges ms d (mark_chain_over (tables_of r) (length r.edges) ms d)
unfolding mark_chain_in
chain_marked r g ms d h = by (chain_ends r g d h) (true_or_false (edge_on_ring es d))
  where
    es : List Edge
    es = r.edges

    t : Tables
    t = tables_of r

    a : ℕ
    a = (edge_at es d).first

    b : ℕ
    b = (edge_at es d).second

    first : mark_over t a (length es) ms d b ≡ marked_by es ms b (until a (walk (length es) es d b))
    first = mark_agrees r g a (length es) ms d b (at_second r g d h)

    by : Ends r d → (edge_on_ring es d ≡ true) ⊎ (edge_on_ring es d ≡ false) → ChainMarked (chain_of es d).edges ms d (mark_chain_over t (length es) ms d)
    by e (inl q) =
        let k = e.ring q in
        rw (first_read r d h, second_read r d h, first, k.passed, k.ends_at_lem, eq-eqb _ _ k.two, ring_edges_lem es d q) (ring_marked ms d (map after_of (once_round es d a)))
    by e (inr q) =
        let k = e.chain q in
        rw (
          first_read r d h,
          second_read r d h,
          first,
          k.passed,
          k.ends_at_lem,
          ne_eqb _ _ k.not_two,
          mark_agrees r g (end_onwards es d b) (length es) (mark_all ms (map after_of (onwards es d b))) d a (at_first r g d h),
          k.back,
          open_edges es d q,
        )
        (open_marked ms d (map after_of (onwards es d a)) (map after_of (onwards es d b)))

-- ---- at edge d

-- the edges from d on that have a mark are those whose name is below d
pub record MarksAt (es : List Edge) (d : ℕ) (ms : List ℕ) : Type 0 where
  pub long : length es ≤ length ms
  pub fresh : (e : ℕ) → d ≤ e → e < length es → d ≤ name_of es e → get_or ms e 0 ≡ 0
  pub passed : (e : ℕ) → d ≤ e → e < length es → name_of es e < d → get_or ms e 0 ≢ 0

module _ (r : Register) (g : Reachable r) (d : ℕ) (h : d < length r.edges) (ms : List ℕ) (k : MarksAt r.edges d ms) where
  abbrev es : List Edge
  es = r.edges

  own : name_of es d ≤ d
  own = name_least es d d (chain_has es d)

  -- an edge without a mark is a name, one with a mark is none
  pub fresh_name : get_or ms d 0 ≡ 0 → name_of es d ≡ d
  fresh_name z = go (dec_lt (name_of es d) d)
    where
      go : Dec (name_of es d < d) → name_of es d ≡ d
      go (yes l) = absurd (k.passed d (omega arith) h l z)
      go (no l) = omega (arith, own)

  pub marked_not : get_or ms d 0 ≢ 0 → name_of es d < d
  marked_not n = go (dec_lt (name_of es d) d)
    where
      go : Dec (name_of es d < d) → name_of es d < d
      go (yes l) = l
      go (no l) = absurd (n (k.fresh d (omega arith) h (omega arith)))

  -- the edges with name d are those of d's chain
  named_in : (e : ℕ) → e < length es → name_of es e ≡ d → Mem e (chain_of es d).edges
  named_in e l q = chain_back es (proper r g) d e l (subst (λ (x : ℕ). Mem x (chain_of es e).edges) q (name_in_chain es e))

  -- past an edge without a mark, whose chain is marked, the marks are as they should be
  pub marks_on : get_or ms d 0 ≡ 0 → MarksAt es (suc d) (mark_chain_over (tables_of r) (length es) ms d)
  marks_on z =
      let m : ChainMarked (chain_of es d).edges ms d (mark_chain_over (tables_of r) (length es) ms d) = chain_marked r g ms d h in
      let q : name_of es d ≡ d = fresh_name z in
      record {
        long = omega (arith, m.as_long, k.long);
        fresh = λ e b l f.
            m.others e (λ i. omega (arith, f, chain_name es (proper r g) e d h i, q)) ∙ k.fresh e (omega arith) l (omega arith);
        passed = λ e b l f. go e b l (ℕ_discrete (name_of es e) d) f m;
      }
    where
      go : (e : ℕ) → suc d ≤ e → e < length es → Dec (name_of es e ≡ d) → name_of es e < suc d
          → ChainMarked (chain_of es d).edges ms d (mark_chain_over (tables_of r) (length es) ms d) → get_or (mark_chain_over (tables_of r) (length es) ms d) e 0 ≢ 0
      go e b l (yes i) f m = m.marks e (omega (arith, k.long)) (λ j. omega arith) (named_in e l i)
      go e b l (no i) f m = m.keeps e (omega (arith, k.long)) (k.passed e (omega arith) l (less (name_of es e) d f i))
        where
          less : (x y : ℕ) → x < suc y → x ≢ y → x < y
          less x y p n = go₁ (dec_lt x y)
            where
              go₁ : Dec (x < y) → x < y
              go₁ (yes c) = c
              go₁ (no c) = absurd (n (omega arith))

  -- past an edge with a mark they are so as they stand
  pub marks_stay : get_or ms d 0 ≢ 0 → MarksAt es (suc d) ms
  marks_stay n =
      record {
        long = k.long;
        fresh = λ e b l f. k.fresh e (omega arith) l (omega arith);
        passed = λ e b l f. go e b l (dec_lt (name_of es e) d) f;
      }
    where
      go : (e : ℕ) → suc d ≤ e → e < length es → Dec (name_of es e < d) → name_of es e < suc d → get_or ms e 0 ≢ 0
      go e b l (yes i) f = k.passed e (omega arith) l i
      go e b l (no i) f =
          let q : name_of es e ≡ d = omega arith in
          let m : Mem d (chain_of es e).edges = subst (λ (x : ℕ). Mem x (chain_of es e).edges) q (name_in_chain es e) in
          absurd (omega (arith, marked_not n, chain_name es (proper r g) d e l m, q))
