-- A walk over the tables of a register is the walk over its edges until its home: it ends where that one ends, passes as many regular
-- vertices, and the sum of its lengths is never cut at 32 bits, nor that of its volumes where all of them fit.
use Rattle.std.specs.Prelude.{if◌then◌else◌}
use mathlib.Core.Path.{◌≡◌, refl, sym, ap, ◌∙◌, subst}
use mathlib.Core.Logic.{◌≢◌, ◌⊎◌, inl, inr}
use Prim.Native.Nat.{ℕ, zero, suc, ◌+◌, ◌*◌, ◌≤◌, ◌<◌, min}
use native.Mathlib.Omega.{arith}
use native.Mathlib.Decide.{dec_lt, ℕ_discrete}
use borrow.Author.Tests.{eq-eqb, ne_eqb}
use lib.Dec.{eqb}
use mathlib.Core.Bool.{Bool, true, false, ◌&&◌, ◌||◌}
use mathlib.Core.List.{List, [], ◌∷◌, map}
use lib.ListN.{length, get_or, length-map, get_or-eq_default}
use Rattle.model.specs.Basics.{max_edges, max_length, sum}
use Rattle.model.specs.Graph.{Edge, Pass, after_of, at_of, edge_at, end_of, far, is_regular, length_at, lengths_of, no_edge, turn, until, volume_at, walk}
use Rattle.model.specs.Register.{Register}
use Rattle.model.specs.Tables.{Tables, tables_of}
use Rattle.model.specs.Notions.{Reachable}
use Rattle.tables.specs.Steps.{far_in, turn_in, most32}
use Rattle.tables.proofs.Sums.{sum32_is}
use Rattle.chains.specs.Chains.{WalkEnd, goes_on_in, plus_volume32, walk_end, walk_ahead, walk_in, walk_volume_in}
use Rattle.chains.proofs.WalkLaws.{walk_in_on, walk_in_stop}
use Rattle.chains.proofs.VolumeLaws.{volume_none, volume_on, volume_stop}
use Rattle.model.proofs.Walks.Degree.{end_first, end_second}
use Rattle.model.proofs.Walks.Turn.{At}
use Rattle.model.proofs.Walks.Joins.{proper_at}
use Rattle.model.proofs.Basics.Booleans.{true_or_false}
use Rattle.model.proofs.Basics.Volumes.{plus_volume, volume_onto}
use Rattle.model.proofs.Chains.Volumes.{passed}
use Rattle.model.proofs.Walks.Round.{length_until, until_no, until_yes}
use Rattle.model.proofs.Walks.Trail.{walk_on, walk_stop, Next, next_edge}
use Rattle.model.proofs.Registers.ReadBack.{length_read, volume_read}
use Rattle.agreement.proofs.Lockstep.{Shows, shows_regular, shows_singular, shows_turn}
use Rattle.agreement.proofs.Tables.{far_is, shows}
use Rattle.agreement.proofs.Registers.{lawful, proper, room}

-- ---- what the tables say of an edge

-- the length and the volume of an edge stand in the tables
pub length_is : (r : Register) (d : ℕ) → d < length r.edges → get_or (tables_of r).lengths d 0 ≡ length_at r.edges d
unfolding length_at
length_is r d h = length_read r d h

pub volume_is : (r : Register) (d : ℕ) → d < length r.edges → get_or (tables_of r).volumes d 0 ≡ volume_at r.edges d
unfolding volume_at
volume_is r d h = volume_read r d h

module _ (r : Register) (g : Reachable r) where
  -- an edge lies at its two ends
  pub at_first : (d : ℕ) → d < length r.edges → At r.edges (edge_at r.edges d).first d
  at_first d h = record { inside = h; meets = end_first (edge_at r.edges d) (proper_at r.edges d (proper r g) h) }

  pub at_second : (d : ℕ) → d < length r.edges → At r.edges (edge_at r.edges d).second d
  at_second d h = record { inside = h; meets = end_second (edge_at r.edges d) (proper_at r.edges d (proper r g) h) }

  pub length_few : (d : ℕ) → length_at r.edges d ≤ max_length
  unfolding length_at edge_at no_edge
  length_few d = go (dec_lt d (length r.edges))
    where
      go : Dec (d < length r.edges) → length_at r.edges d ≤ max_length
      go (yes h) = (lawful r g d h).most_length
      go (no h) =
          let past : length r.edges ≤ d = omega arith in
          let none : length_at r.edges d ≡ 0 = ap (λ (e : Edge). e.len) (get_or-eq_default r.edges no_edge past) in
          omega arith

-- ---- one step over the tables

-- from the regular vertex v, reached by edge d, to the next vertex
pub record Step (r : Register) (d v : ℕ) : Type 0 where
  pub regular : get_or (tables_of r).degrees v 0 ≡ 2
  pub turns : turn_in (tables_of r).sides d v ≡ turn r.edges d v
  pub arrives : far_in (tables_of r).ends (turn r.edges d v) v ≡ far r.edges (turn r.edges d v) v
  pub inside : turn r.edges d v < length r.edges
  pub at : At r.edges (far r.edges (turn r.edges d v) v) (turn r.edges d v)

module _ (r : Register) (g : Reachable r) (d v : ℕ) (a : At r.edges v d) where
  reachable_shows : Shows r.edges (tables_of r).degrees (tables_of r).sides (tables_of r).ends r.lows
  reachable_shows = shows r g

  -- over a regular vertex the tables lead one step on
  pub steps : is_regular r.edges v ≡ true → Step r d v
  steps q =
      let es : List Edge = r.edges in
      let t : Tables = tables_of r in
      let x : Next es d v (turn es d v) = next_edge es d v (turn es d v) (proper r g) a q refl in
      record {
        regular = shows_regular reachable_shows a q;
        turns = shows_turn reachable_shows (proper r g) a q refl;
        arrives = far_is r (turn es d v) v x.at.inside;
        inside = x.at.inside;
        at = x.across.at;
      }

  -- at a singular vertex the table has no degree 2
  pub stops : is_regular r.edges v ≡ false → get_or (tables_of r).degrees v 0 ≢ 2
  stops q = shows_singular reachable_shows a q

-- a walker that is not home goes on
module _ (r : Register) (g : Reachable r) (home d v : ℕ) (a : At r.edges v d) where
  -- a walker stops at a singular vertex, and at home; over any other regular one it goes on
  pub goes_not : is_regular r.edges v ≡ false → goes_on_in (tables_of r).degrees home v ≡ false
  unfolding goes_on_in
  goes_not q = rw (ne_eqb _ _ (stops r g d v a q))

  pub goes_home : v ≡ home → goes_on_in (tables_of r).degrees home v ≡ false
  unfolding goes_on_in
  goes_home e = rw (eq-eqb v home e) (and_false (eqb (get_or (tables_of r).degrees v 0) 2))
    where
      and_false : (b : Bool) → b && false ≡ false
      and_false true = refl
      and_false false = refl

  pub goes_on : is_regular r.edges v ≡ true → v ≢ home → goes_on_in (tables_of r).degrees home v ≡ true
  unfolding goes_on_in
  goes_on q n = rw (eq-eqb _ _ (steps r g d v a q).regular, ne_eqb v home n)

-- what a walk passes before it is home, by its first step
module _ (home n : ℕ) (es : List Edge) (d v : ℕ) where
  -- what a walk passes before it is home: nothing at a singular vertex or at home, else the vertex and what follows
  pub before_none : is_regular es v ≡ false → until home (walk (suc n) es d v) ≡ []
  unfolding until
  before_none q = rw (walk_stop (suc n) es d v q)

  pub before_home : is_regular es v ≡ true → v ≡ home → until home (walk (suc n) es d v) ≡ []
  before_home q e = rw (walk_on n es d v q) (until_yes home _ _ e)

  pub before_on : is_regular es v ≡ true → v ≢ home
      → until home (walk (suc n) es d v) ≡ record { before = d; at = v; after = turn es d v } ∷ until home (walk n es (turn es d v) (far es (turn es d v) v))
  before_on q e = rw (walk_on n es d v q) (until_no home _ _ e)

-- the three ways of a first step
pub data First (r : Register) (home v : ℕ) : Type 0 where
  at_end : is_regular r.edges v ≡ false → First r home v
  at_home : is_regular r.edges v ≡ true → v ≡ home → First r home v
  onward : is_regular r.edges v ≡ true → v ≢ home → First r home v

-- at every vertex it is one of the three
pub first_step : (r : Register) (home v : ℕ) → First r home v
first_step r home v = go (true_or_false (is_regular r.edges v)) (ℕ_discrete v home)
  where
    go : (is_regular r.edges v ≡ true) ⊎ (is_regular r.edges v ≡ false) → Dec (v ≡ home) → First r home v
    go (inr q) e = at_end q
    go (inl q) (yes e) = at_home q e
    go (inl q) (no n) = onward q n

-- ---- the sum of lengths

walk_most : (n : ℕ) (es : List Edge) (d v : ℕ) → length (walk n es d v) ≤ n
unfolding walk
walk_most zero es d v = omega arith
walk_most (suc n) es d v = go (is_regular es v) refl (walk_most n es (turn es d v) (far es (turn es d v) v))
  where
    go : (b : Bool) → is_regular es v ≡ b → length (walk n es (turn es d v) (far es (turn es d v) v)) ≤ n → length (walk (suc n) es d v) ≤ suc n
    go true c ih = rw (walk_on n es d v c) (omega arith)
    go false c ih = rw (walk_stop (suc n) es d v c) (omega arith)

sum_most : (es : List Edge) (xs : List ℕ) → ((d : ℕ) → length_at es d ≤ max_length) → sum (lengths_of es xs) ≤ max_length * length xs
unfolding sum lengths_of
sum_most es [] h = omega arith
sum_most es (x ∷ xs) h = omega (arith, h x, sum_most es xs h)

-- a walk of at most n steps
walk_sum : (r : Register) → Reachable r → (home n d v : ℕ) → sum (lengths_of r.edges (map after_of (until home (walk n r.edges d v)))) ≤ max_length * n
walk_sum r g home n d v =
    let ss : List Pass = walk n r.edges d v in
    let us : List Pass = until home ss in
    let m : length us ≤ n = omega (arith, length_until home ss, walk_most n r.edges d v) in
    omega (arith, sum_most r.edges (map after_of us) (length_few r g), length-map us after_of, m)

-- ---- the least of x and the numbers of a list, x compared last

-- the least of some numbers and x
unfoldable pub lower : List ℕ → ℕ → ℕ
lower [] x = x
lower (y ∷ ys) x = min y (lower ys x)

-- ---- the walk

-- the walk over tables
abbrev pub walk_over : Tables → ℕ → ℕ → ℕ → ℕ → WalkEnd
walk_over t = walk_in t.degrees t.sides t.ends t.lengths

-- what a walk from v that passes `ss` comes to
abbrev pub walked_by : List Edge → ℕ → ℕ → List Pass → WalkEnd
walked_by es home v ss = walk_end (end_of es v ss) (length ss) (sum (lengths_of es (map after_of ss))) (lower (map at_of ss) home)

module _ (r : Register) (g : Reachable r) (home : ℕ) where
  -- a walk over the tables comes to what the walk over the edges comes to
  pub walks : (n d v : ℕ) → n ≤ max_edges → At r.edges v d → walk_over (tables_of r) home n d v ≡ walked_by r.edges home v (until home (walk n r.edges d v))
  unfolding walk_in walk_ahead walk until end_of sum lengths_of after_of at_of lower
  walks zero d v m a = refl
  walks (suc n) d v m a = go (first_step r home v) (λ c at. walks n c (far es c v) (omega arith) at)
    where
      es : List Edge
      es = r.edges

      t : Tables
      t = tables_of r

      Goal : Type 0
      Goal = walk_over t home (suc n) d v ≡ walked_by es home v (until home (walk (suc n) es d v))

      stop : goes_on_in t.degrees home v ≡ false → until home (walk (suc n) es d v) ≡ [] → Goal
      stop q e = rw (e, walk_in_stop t.degrees t.sides t.ends t.lengths home (suc n) d v q)

      go : First r home v
          → ((c : ℕ) → At es (far es c v) c → walk_over t home n c (far es c v) ≡ walked_by es home (far es c v) (until home (walk n es c (far es c v)))) → Goal
      go (at_end q) ih = stop (goes_not r g home d v a q) (before_none home n es d v q)
      go (at_home q e) ih = stop (goes_home r g home d v a e) (before_home home n es d v q e)
      go (onward q e) ih =
          let c : ℕ = turn es d v in
          let x : Step r d v = steps r g d v a q in
          let us : List Pass = until home (walk n es c (far es c v)) in
          let k : 1 + length us ≡ suc (length us) = omega arith in
          rw (
            before_on home n es d v q e,
            walk_in_on t.degrees t.sides t.ends t.lengths home n d v c (far es c v) (goes_on r g home d v a q e) x.turns x.arrives,
            ih c x.at,
            length_is r c x.inside,
            sum32_is (length_at es c) (sum (lengths_of es (map after_of us))) (omega (arith, length_few r g c, walk_sum r g home n c (far es c v))),
            k,
          )

-- ---- the volumes along the walk

plus_fits : (v w : ℕ) → v + w ≤ most32 → plus_volume32 v w ≡ plus_volume v w
unfolding plus_volume32 plus_volume
plus_fits v w h = rw (sum32_is v w h)

plus_most : (v w : ℕ) → plus_volume v w ≤ v + w
unfolding plus_volume
plus_most v w = go (eqb v 0 || eqb w 0)
  where
    go : (b : Bool) → (if b then 0 else v + w) ≤ v + w
    go true = omega arith
    go false = omega arith

-- the volume along a walk over the tables
abbrev pub volume_over : Tables → ℕ → ℕ → ℕ → ℕ → ℕ → ℕ
volume_over t = walk_volume_in t.degrees t.sides t.ends t.volumes

module _ (r : Register) (g : Reachable r) (home : ℕ) where
  -- the volume along a walk over the tables is that of the edges passed, where their sum fits
  pub walk_volumes : (n known d v : ℕ) → At r.edges v d → known + sum (passed r.edges (until home (walk n r.edges d v))) ≤ most32
      → volume_over (tables_of r) home n known d v ≡ volume_onto known (passed r.edges (until home (walk n r.edges d v)))
  unfolding walk until volume_onto sum after_of
  walk_volumes zero known d v a f =
      sym (volume_none (tables_of r).degrees (tables_of r).sides (tables_of r).ends (tables_of r).volumes home zero known d v (omega arith))
  walk_volumes (suc n) known d v a f = go (first_step r home v) (λ c k at m. walk_volumes n k c (far es c v) at m)
    where
      es : List Edge
      es = r.edges

      t : Tables
      t = tables_of r

      Goal : Type 0
      Goal = volume_over t home (suc n) known d v ≡ volume_onto known (passed es (until home (walk (suc n) es d v)))

      stop : goes_on_in t.degrees home v ≡ false → until home (walk (suc n) es d v) ≡ [] → Goal
      stop q e = rw e (sym (volume_stop t.degrees t.sides t.ends t.volumes home (suc n) known d v q))

      go : First r home v
          → ((c k : ℕ) → At es (far es c v) c → k + sum (passed es (until home (walk n es c (far es c v)))) ≤ most32
          → volume_over t home n k c (far es c v) ≡ volume_onto k (passed es (until home (walk n es c (far es c v))))) → Goal
      go (at_end q) ih = stop (goes_not r g home d v a q) (before_none home n es d v q)
      go (at_home q e) ih = stop (goes_home r g home d v a e) (before_home home n es d v q e)
      go (onward q e) ih =
          let c : ℕ = turn es d v in
          let x : Step r d v = steps r g d v a q in
          let us : List Pass = until home (walk n es c (far es c v)) in
          let b = before_on home n es d v q e in
          let m : known + (volume_at es c + sum (passed es us)) ≤ most32 = subst (λ (ss : List Pass). known + sum (passed es ss) ≤ most32) b f in
          let more : plus_volume32 known (get_or t.volumes c 0) ≡ plus_volume known (volume_at es c) =
          ap (plus_volume32 known) (volume_is r c x.inside) ∙ plus_fits known (volume_at es c) (omega (arith, m)) in
          rw b
          (volume_on t.degrees t.sides t.ends t.volumes home n known d v c (far es c v) (goes_on r g home d v a q e) x.turns x.arrives
          ∙ ap (λ (k : ℕ). volume_over t home n k c (far es c v)) more
          ∙ ih c (plus_volume known (volume_at es c)) x.at (omega (arith, m, plus_most known (volume_at es c))))
