-- Whether a regular vertex lies on a ring: two walkers over tables that show the edges find what the edges say.
use mathlib.Core.Path.{◌≡◌, refl, sym, ap, ap₂, ◌∙◌, subst}
use mathlib.Core.Logic.{◌⊎◌, inl, inr}
use Prim.Native.Nat.{ℕ, zero, suc, ◌+◌, ◌<◌}
use native.Mathlib.Omega.{arith}
use native.Mathlib.Decide.{ℕ_discrete}
use mathlib.Core.Bool.{Bool, true, false, ◌||◌}
use mathlib.Core.List.{List, []}
use lib.ListN.{length, get_or}
use lib.Dec.{eqb}
use borrow.Author.Tests.{lt-ltb, le-ltb}
use Rattle.model.specs.Graph.{Edge, Pass, degree, far, is_regular, lower_numbered, once_round, turn}
use Rattle.model.specs.Labels.{passes, vertex_on_ring}
use Rattle.tables.specs.Steps.{far_in, turn_in}
use Rattle.tables.specs.Rounds.{back_in, lower_in, ring_in, round_in}
use Rattle.tables.specs.declared.rings.Round.{Round as Answer}
use Rattle.tables.specs.declared.rings.Round.TheVariants.{NoRing}
use Rattle.tables.proofs.Rounds.{round_back, round_first, round_none, round_on, round_second}
use Rattle.model.proofs.Basics.Booleans.{not_both}
use Rattle.model.proofs.Walks.Degree.{Proper, two_is}
use Rattle.model.proofs.Walks.Turn.{At, TwoEdges, two_edges, turn_between}
use Rattle.model.proofs.Walks.Joins.{Across, across}
use Rattle.model.proofs.Walks.Trail.{Trail, done, pass, Next, backwards, length_backwards, next_edge, trail_back}
use Rattle.model.proofs.Walks.Places.{Off, here}
use Rattle.model.proofs.Walks.Ended.{Ended, first_short, off_tail}
use Rattle.model.proofs.Walks.Returns.{off_ring}
use Rattle.model.proofs.Walks.Round.{Meets, Round, arrives_ring, meets, meets_or, misses, ring_round}
use Rattle.agreement.proofs.Linked.{Linked}
use Rattle.agreement.proofs.Lockstep.{Shows, shows_regular, shows_singular, shows_turn}

-- ---- the lower-numbered edge, by the sides

low_first : (es : List Edge) (v : ℕ) (t : TwoEdges es v) → lower_numbered es v ≡ t.low
unfolding lower_numbered
low_first es v t = rw t.list

-- the lower-numbered edge lies at the vertex, and the sides tell it
pub lower_at : (es : List Edge) → Proper es → (v : ℕ) → degree es v ≡ 2 → At es v (lower_numbered es v)
lower_at es pr v two = let t : TwoEdges es v = two_edges es v pr two in rw (low_first es v t) t.low_at_lem

pub lower_is : (es : List Edge) → Proper es → (sides lows : List ℕ) (v : ℕ) → degree es v ≡ 2 → Linked es sides lows v → lower_in sides v ≡ lower_numbered es v
unfolding lower_in
lower_is es pr sides lows v two k = go (two_edges es v pr two)
  where
    go : TwoEdges es v → lower_in sides v ≡ lower_numbered es v
    go t = by (t.only (get_or lows v 0) (k.low_at_lem two))
      where
        by : (get_or lows v 0 ≡ t.low) ⊎ (get_or lows v 0 ≡ t.high) → lower_in sides v ≡ lower_numbered es v
        by (inl e) =
            let h : turn es (get_or lows v 0) v ≡ t.high = turn_between es v (get_or lows v 0) t.high t (k.low_at_lem two) t.high_at (λ q. omega (arith, t.differ, e, q)) in
            let p = k.regular two in
            rw (p.0, p.1, h, e, lt-ltb _ _ t.differ) (sym (low_first es v t))
        by (inr e) =
            let h : turn es (get_or lows v 0) v ≡ t.low = turn_between es v (get_or lows v 0) t.low t (k.low_at_lem two) t.low_at_lem (λ q. omega (arith, t.differ, e, q)) in
            let p = k.regular two in
            rw (p.0, p.1, h, e, le-ltb t.high t.low (omega (arith, t.differ))) (sym (low_first es v t))

-- ---- tests

or_none : (b : Bool) → b ≡ (b || false)
or_none true = refl
or_none false = refl

or_cons : (met e rest : Bool) → ((met || e) || rest) ≡ (met || elim e [ true ↦ true | false ↦ rest ])
or_cons true e rest = refl
or_cons false true rest = refl
or_cons false false rest = refl

module _ {es : List Edge} (pr : Proper es) {degrees sides ends lows : List ℕ} (sh : Shows es degrees sides ends lows) (v w : ℕ) where
  -- the first walker comes to v, for the first time; the second passes as many
  goes_round : {d x q u c y r z : ℕ} {ss ts : List Pass} (n k : ℕ) (met : Bool) → u ≡ v → At es x d → At es y c → Trail es d x ss q u → Trail es c y ts r z
      → is_regular es u ≡ true → is_regular es z ≡ true → length ss ≡ length ts → Off ss v → length ss < n
      → round_in degrees sides ends v w n k met d x c y ≡ back_in (k + length ss) (met || passes w ss)
  unfolding passes
  goes_round {d} {x} {c = c} {y = y} n k met e a b done done cu cz l o h =
      let z : k ≡ k + 0 = omega arith in
      sym (round_back degrees sides ends v w n k met d x c y (omega arith) (shows_regular sh a cu) (shows_regular sh b cz) e) ∙ ap₂ {C = Answer} back_in z (or_none met)
  goes_round n k met e a b done (pass c' r' q' u) cu cz l o h = absurd (omega arith)
  goes_round n k met e a b (pass d' r q t) done cu cz l o h = absurd (omega arith)
  goes_round zero k met e a b (pass d' r q t) (pass c' r' q' u) cu cz l o h = absurd (omega arith)
  goes_round {d} {x} {c = c} {y = y} (suc n) k met e a b (pass {ss = ss} d' r q t) (pass {ss = ts} c' r' q' u) cu cz l o h =
      let nx : Next es d x d' = next_edge es d x d' pr a r q in
      let ny : Next es c y c' = next_edge es c y c' pr b r' q' in
      let z : k + 1 + length ss ≡ k + suc (length ss) = omega arith in
      round_on degrees sides ends v w n k met (met || eqb x w) d x c y d' (far es d' x) c' (far es c' y) (shows_regular sh a r) (shows_regular sh b r') (o 0 _ here) refl
      (shows_turn sh pr a r q) (sh.fars_are d' x nx.at.inside) (shows_turn sh pr b r' q') (sh.fars_are c' y ny.at.inside)
      ∙ goes_round n (k + 1) (met || eqb x w) e nx.across.at ny.across.at t u cu cz (omega arith) (off_tail o) (omega arith)
      ∙ ap₂ {C = Answer} back_in z (or_cons met (eqb x w) (passes w ss))

  -- the first walker comes to a singular vertex, and not to v
  ends_first : {d x q u : ℕ} {ss : List Pass} (n k : ℕ) (met : Bool) (c y : ℕ) → At es x d → Trail es d x ss q u → is_regular es u ≡ false → Off ss v
      → NoRing ≡ round_in degrees sides ends v w n k met d x c y
  ends_first {d} {x} n k met c y a done j o = round_first degrees sides ends v w n k met d x c y (shows_singular sh a j)
  ends_first {d} {x} zero k met c y a (pass d' r q t) j o = round_none degrees sides ends v w 0 k met d x c y (omega arith)
  ends_first {d} {x} (suc n) k met c y a (pass {ss = ss} d' r q t) j o =
      go (ℕ_discrete (get_or degrees y 0) 2) (ends_first n (k + 1) (met || eqb x w) (turn_in sides c y) (far_in ends (turn_in sides c y) y) (next_edge es d x d' pr a r q).across.at t j (off_tail o))
    where
      go : Dec (get_or degrees y 0 ≡ 2) → NoRing ≡ round_in degrees sides ends v w n (k + 1) (met || eqb x w) d' (far es d' x) (turn_in sides c y) (far_in ends (turn_in sides c y) y)
          → NoRing ≡ round_in degrees sides ends v w (suc n) k met d x c y
      go (no m) ih = round_second degrees sides ends v w (suc n) k met d x c y (shows_regular sh a r) m
      go (yes m) ih =
          ih ∙ sym (round_on degrees sides ends v w n k met (met || eqb x w) d x c y d' (far es d' x) (turn_in sides c y) (far_in ends (turn_in sides c y) y)
          (shows_regular sh a r) m (o 0 _ here) refl (shows_turn sh pr a r q) (sh.fars_are d' x (next_edge es d x d' pr a r q).at.inside) refl refl)

  module _ (two : degree es v ≡ 2) where
    abbrev d : ℕ
    d = lower_numbered es v

    at_v : At es v (lower_numbered es v)
    at_v = lower_at es pr v two

    regular : is_regular es v ≡ true
    regular = two_is es v two

    x : Across es d v
    x = across es d v pr at_v

    nx : Next es d v (turn es d v)
    nx = next_edge es d v (turn es d v) pr at_v regular refl

    by_lower : round_in degrees sides ends v w (length es) 0 false d (far es d v) (turn es d v) (far es (turn es d v) v) ≡ ring_in degrees sides ends v w (length es)
    unfolding ring_in
    by_lower =
        rw (lower_is es pr sides lows v two (sh.links v (sh.below v d at_v)), shows_turn sh pr at_v regular refl, sh.fars_are d v at_v.inside, sh.fars_are (turn es d v) v nx.at.inside)

    -- a vertex on a ring: the walkers tell how many others it has, and whether w is one of them
    pub ring_yes : vertex_on_ring es v ≡ true → ring_in degrees sides ends v w (length es) ≡ back_in (length (once_round es (lower_numbered es v) v)) (passes w (once_round es (lower_numbered es v) v))
    unfolding vertex_on_ring
    ring_yes e =
        let r : Round es d v = ring_round es pr d v e at_v in
        let u : Trail es (turn es d v) (far es (turn es d v) v) (backwards (once_round es d v)) d v =
        subst (λ (q : ℕ). Trail es q (far es q v) (backwards (once_round es d v)) d v) (sym r.back)
        (subst (λ (z : ℕ). Trail es r.last (far es r.last v) (backwards (once_round es d v)) d z) x.again (trail_back pr x.at r.trail)) in
        let z : 0 + length (once_round es d v) ≡ length (once_round es d v) = omega arith in
        sym by_lower ∙ goes_round (length es) 0 false refl x.at nx.across.at r.trail u regular regular
        (sym (length_backwards (once_round es d v))) r.off (first_short es pr x.at r.trail r.off)
        ∙ ap (λ (n : ℕ). back_in n (passes w (once_round es d v))) z

    -- a vertex on no ring: they tell that
    pub ring_no : vertex_on_ring es v ≡ false → ring_in degrees sides ends v w (length es) ≡ NoRing
    unfolding vertex_on_ring
    ring_no e = sym by_lower ∙ sym (ends_first (length es) 0 false (turn es d v) (far es (turn es d v) v) x.at en.trail en.singular (off (meets_or v en.trail)))
      where
        en : Ended es d (far es d v)
        en = off_ring es pr d at_v.inside e (far es d v) x.at

        off : Meets es d (far es d v) en.passes en.onto en.to v → Off en.passes v
        off (misses o) = o
        off (meets front rest onto q u u' o l) = absurd (not_both _ (arrives_ring es pr at_v regular u) e)
