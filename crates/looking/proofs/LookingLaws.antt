-- A chain looked through: the ways out of the functions, and a turn of the loop.
use Rattle.std.specs.Prelude.{if◌then◌else◌}
use mathlib.Core.Path.{◌≡◌, refl, sym}
use mathlib.Core.Logic.{◌≢◌}
use mathlib.Core.Bool.{Bool, true, false, not}
use mathlib.Core.List.{List}
use mathlib.Core.Option.{Option, none, some}
use Prim.Native.Nat.{ℕ, zero, suc, ◌+◌, ◌-◌, ◌*◌, ◌≤◌, ◌<◌, min}
use native.Mathlib.Nat.{not-suc-le-zero}
use native.Mathlib.Numerals.{sub-one}
use native.Mathlib.Omega.{arith}
use lib.ListN.{get_or}
use borrow.Author.Tests.{eq-eqb, ne_eqb}
use Rattle.model.specs.Queries.{Reply, found}
use Rattle.tables.specs.Steps.{far_in, more16, turn_in, sum32}
use Rattle.chains.specs.Chains.{goes_on_in}
use Rattle.looking.specs.Looking.{Look, Seen, edge_towards, look, look_along_in, look_in, look_through_in, seen, told_in, wearer_in, with_edge}

module _ (ls : List ℕ) (label w v : ℕ) where
  -- somebody before wears the label; v does; v does not
  pub wearer_before : w ≢ 0 → w ≡ wearer_in ls label w v
  unfolding wearer_in
  wearer_before f = go w refl
    where
      go : (x : ℕ) → w ≡ x → w ≡ wearer_in ls label w v
      go zero e = absurd (f e)
      go (suc x) e = rw e

  module _ (own : ℕ) (z : w ≡ 0) (o : own ≡ get_or ls v 0) where
    pub wearer_here : (x : ℕ) → own ≡ label → x ≡ more16 v → x ≡ wearer_in ls label w v
    unfolding wearer_in
    wearer_here x e q = rw (z, ← o, eq-eqb own label e) q

    pub wearer_not : own ≢ label → 0 ≡ wearer_in ls label w v
    unfolding wearer_in
    wearer_not e = rw (z, ← o, ne_eqb own label e)

module _ (lens ls : List ℕ) (label w b h x v d y own low : ℕ) (p : y ≡ wearer_in ls label w v) (o : own ≡ get_or lens d 0) (q : low ≡ min d x) where
  -- an edge before the wearer, or behind it
  pub edge_before : (l : ℕ) → y ≡ 0 → l ≡ sum32 b own → seen y l h low ≡ with_edge lens ls label (seen w b h x) v d
  unfolding with_edge
  edge_before l z e = rw (← p, ← o, ← q, eq-eqb y 0 z, e)

  pub edge_behind : (l : ℕ) → y ≢ 0 → l ≡ sum32 h own → seen y b l low ≡ with_edge lens ls label (seen w b h x) v d
  unfolding with_edge
  edge_behind l z e = rw (← p, ← o, ← q, ne_eqb y 0 z, e)

module _ (ds ss es lens ls : List ℕ) (label home : ℕ) where
  -- no step is left; the walk ends; a step on
  pub look_none : (n : ℕ) (s : Seen) (d v : ℕ) → n ≤ 0 → look v s ≡ look_in ds ss es lens ls label home n s d v
  unfolding look_in
  look_none zero s d v h = refl
  look_none (suc n) s d v h = absurd (not-suc-le-zero h)

  pub look_stop : (n : ℕ) (s : Seen) (d v : ℕ) → goes_on_in ds home v ≡ false → look v s ≡ look_in ds ss es lens ls label home n s d v
  unfolding look_in
  look_stop zero s d v h = refl
  look_stop (suc n) s d v h = rw h

  pub look_on : (n : ℕ) (s : Seen) (d v c w : ℕ) → goes_on_in ds home v ≡ true → turn_in ss d v ≡ c → far_in es c v ≡ w
      → look_in ds ss es lens ls label home (suc n) s d v ≡ look_in ds ss es lens ls label home n (with_edge lens ls label s v c) c w
  unfolding look_in
  look_on n s d v c w h i j = rw (h, i, j)

  -- the step on, as turn i of the loop
  pub look_step : (n i : ℕ) (s t : Seen) (d v c w : ℕ) → i < n → goes_on_in ds home v ≡ true → c ≡ turn_in ss d v → w ≡ far_in es c v
      → t ≡ with_edge lens ls label s v c
      → look_in ds ss es lens ls label home (n - i) s d v ≡ look_in ds ss es lens ls label home (n - (i + 1)) t c w
  look_step n i s t d v c w h g a b e =
      let next : n - i ≡ suc (n - (i + 1)) = omega (arith, h) in
      rw (next, e) (look_on (n - (i + 1)) s d v c w g (sym a) (sym b))

-- the first edge is looked at before the walk
pub along_law : (ds ss es lens ls : List ℕ) (label n v on back from : ℕ) (s : Seen) (l : Look) → s ≡ with_edge lens ls label (seen 0 0 0 back) v on
    → from ≡ far_in es on v → l ≡ look_in ds ss es lens ls label v n s on from → l ≡ look_along_in ds ss es lens ls label n v on back
unfolding look_along_in
along_law ds ss es lens ls label n v on back from s l a b e = rw (← a, ← b) e

module _ (ds lens : List ℕ) (up : Bool) (back at w b h x : ℕ) where
  -- nobody wears the label
  pub told_nothing : w ≡ 0 → none ≡ told_in ds lens up back (look at (seen w b h x))
  unfolding told_in
  told_nothing z = rw z

  module _ (f : w ≢ 0) (k : ℕ) (o : k ≡ get_or ds at 0) where
    -- the walk came home, or to the chain's end
    pub told_ring : (l : ℕ) → k ≡ 2 → l ≡ sum32 b h → some (found x (w - 1) 0 l) ≡ told_in ds lens up back (look at (seen w b h x))
    unfolding told_in
    told_ring l two e = go w refl
      where
        go : (y : ℕ) → w ≡ y → some (found x (w - 1) 0 l) ≡ told_in ds lens up back (look at (seen w b h x))
        go zero q = absurd (f q)
        go (suc y) q = rw (q, ← o, eq-eqb k 2 two, sub-one, e)

    module _ (m : k ≢ 2) (own near : ℕ) (p : own ≡ get_or lens back 0) (e : near ≡ sum32 own b) where
      pub told_end : some (if up then found x (w - 1) near h else found x (w - 1) h near) ≡ told_in ds lens up back (look at (seen w b h x))
      unfolding told_in
      told_end = go w refl
        where
          go : (y : ℕ) → w ≡ y → some (if up then found x (w - 1) near h else found x (w - 1) h near) ≡ told_in ds lens up back (look at (seen w b h x))
          go zero q = absurd (f q)
          go (suc y) q = rw (q, ← o, ne_eqb k 2 m, sub-one, ← p, e)

module _ (ss : List ℕ) (up : Bool) (v d : ℕ) where
  -- the edge towards the high end, and towards the low end
  pub towards_up : up ≡ true → d ≡ get_or ss (2 * v + 1) 0 → d ≡ edge_towards ss up v
  unfolding edge_towards
  towards_up u e = rw u e

  pub towards_down : up ≡ false → d ≡ get_or ss (2 * v) 0 → d ≡ edge_towards ss up v
  unfolding edge_towards
  towards_down u e = rw u e

-- a chain is looked through from v, up or down
pub through : (ds ss es lens ls : List ℕ) (n label v on back : ℕ) (up : Bool) (l : Look) (r : Option Reply) → on ≡ edge_towards ss up v
    → back ≡ edge_towards ss (not up) v → l ≡ look_along_in ds ss es lens ls label n v on back → r ≡ told_in ds lens up back l
    → r ≡ look_through_in ds ss es lens ls n label up v
unfolding look_through_in
through ds ss es lens ls n label v on back up l r a b e q = rw (← a, ← b, ← e) q
