-- A vertex bared, a ring tapped, what is looked for before a split, and the ways out of it.
use mathlib.Core.Path.{◌≡◌, refl}
use mathlib.Core.Bool.{Bool, true, false}
use mathlib.Core.List.{List}
use Prim.Native.Nat.{ℕ}
use lib.ListN.{set}
use Rattle.model.specs.Labels.{base}
use Rattle.tables.specs.Steps.{far_in, more16, set_pair, sum32}
use Rattle.tables.specs.Rounds.{lower_in, ring_in}
use Rattle.tables.specs.declared.rings.Round.{Round}
use Rattle.tables.specs.declared.rings.Round.TheVariants.{NoRing, Ring, Shared}
use Rattle.labels.specs.Labelling.{marks_in, relabel_in}
use Rattle.labels.specs.Changes.{changed}
use Rattle.counters.specs.declared.numbers.Vertex.{Vertex}
use Rattle.parting.specs.Splitting.{bare_in, tap_in, split_by, split_in, left_for, split_both_in, split_one_in, split_two_in, split_ends_in, rounds, no_rounds, rounds_one, rounds_both, rounds_for, both_by, ends_by}
use Rattle.parting.specs.declared.splitting.Splits.{Splits}
use Rattle.parting.specs.declared.splitting.Splits.TheVariants.{Neither, One, Both}
use Rattle.parting.specs.declared.splitting.Rounds.{Rounds}

-- label and sides stored as 0: the vertex is bared
pub bare_law : (s l s' l' : List ℕ) (v : ℕ) → s' ≡ set_pair s v 0 0 → l' ≡ set l v 0 → marks_in s' l' 0 ≡ bare_in s l v
unfolding bare_in
bare_law s l s' l' v h g = rw (h, g)

-- the others on the ring labelled from the base of block k on, and v bared: the ring is tapped
pub tap_law : (degrees s ends l s₁ l₁ s' l' : List ℕ) (v k others d u low n : ℕ) → (d ≡ lower_in s v) × (u ≡ far_in ends d v) → low ≡ base k
    → marks_in s₁ l₁ n ≡ relabel_in degrees ends true others s l d u low → marks_in s' l' 0 ≡ bare_in s₁ l₁ v
    → marks_in s' l' n ≡ tap_in degrees s ends l v k others
unfolding tap_in
tap_law degrees s ends l s₁ l₁ s' l' v k others d u low n h g i j = rw (← h.0, ← h.1, ← g, ← i, ← j)

module _ (degrees s ends l s' l' : List ℕ) (blocks v w blocks' m : ℕ) (ring : Bool) (round : Round) where
  -- v is on no ring: it is bared
  pub by_none : round ≡ NoRing → marks_in s' l' 0 ≡ bare_in s l v → (blocks' ≡ blocks) × (m ≡ 0) × (ring ≡ false)
      → changed s' l' blocks' m ring ≡ split_by round degrees s ends l blocks v w
  by_none o g z = rw (o, z.0, z.1, z.2, ← g)

  -- v is on a ring: the ring is tapped, and a block begins
  pub by_ring : (others k n : ℕ) → round ≡ Ring others → k ≡ more16 blocks → marks_in s' l' n ≡ tap_in degrees s ends l v k others
      → (blocks' ≡ k) × (m ≡ n) × (ring ≡ false) → changed s' l' blocks' m ring ≡ split_by round degrees s ends l blocks v w
  by_ring others k n o h g z = rw (o, z.0, z.1, z.2, ← h, ← g)

  -- the other end shares the ring: it loses its label, and then the ring is tapped
  pub by_shared : (l₁ : List ℕ) (others k n : ℕ) → round ≡ Shared others → l₁ ≡ set l w 0 → k ≡ more16 blocks
      → marks_in s' l' n ≡ tap_in degrees s ends l₁ v k others → (blocks' ≡ k) × (m ≡ n) × (ring ≡ false)
      → changed s' l' blocks' m ring ≡ split_by round degrees s ends l blocks v w
  by_shared l₁ others k n o i h g z = rw (o, z.0, z.1, z.2, ← i, ← h, ← g)

-- what is looked for
module _ (degrees s ends : List ℕ) (a b n : ℕ) (rings : Bool) where
  -- one end is split: its ring is looked for where one may stand, and else there is none
  pub one_looked : (first : Round) → rings ≡ true → first ≡ ring_in degrees s ends a b n → rounds first NoRing ≡ rounds_one degrees s ends a b n rings
  unfolding rounds_one
  one_looked first t h = rw (t, ← h)

  pub one_left : rings ≡ false → no_rounds ≡ rounds_one degrees s ends a b n rings
  unfolding rounds_one
  one_left t = rw t

  -- both ends are split: both rings are looked for, and of the second there is what the first split leaves
  pub both_looked : (first second left : Round) → rings ≡ true → first ≡ ring_in degrees s ends a b n → second ≡ ring_in degrees s ends b a n
      → left ≡ left_for second → rounds first left ≡ rounds_both degrees s ends a b n rings
  unfolding rounds_both
  both_looked first second left t h g i = rw (t, ← h, ← g, ← i)

  pub both_left : rings ≡ false → no_rounds ≡ rounds_both degrees s ends a b n rings
  unfolding rounds_both
  both_left t = rw t

-- a is split and then b, and what both relabel is added up
pub both_law : (degrees s ends l s₁ l₁ s₂ l₂ : List ℕ) (blocks a b k₁ k₂ m₁ m₂ blocks' m sum : ℕ) (ring₁ ring₂ ring : Bool) (by : Rounds)
    → changed s₁ l₁ k₁ m₁ ring₁ ≡ split_by by.first degrees s ends l blocks a b
    → changed s₂ l₂ k₂ m₂ ring₂ ≡ split_by by.second degrees s₁ ends l₁ k₁ b a
    → sum ≡ sum32 m₁ m₂ → (blocks' ≡ k₂) × (m ≡ sum) × (ring ≡ false) → changed s₂ l₂ blocks' m ring ≡ both_by by degrees s ends l blocks a b
unfolding both_by
both_law degrees s ends l s₁ l₁ s₂ l₂ blocks a b k₁ k₂ m₁ m₂ blocks' m sum ring₁ ring₂ ring by j k o z =
    rw (z.0, z.1, z.2, ← j, ← k, o)

-- the ends of an edge
module _ (degrees s ends l s' l' : List ℕ) (blocks a b blocks' m : ℕ) (ring : Bool) (splits : Splits) (by : Rounds) where
  -- no end is split: nothing changes
  pub ends_neither : splits ≡ Neither → s' ≡ s → l' ≡ l → (blocks' ≡ blocks) × (m ≡ 0) × (ring ≡ false)
      → changed s' l' blocks' m ring ≡ ends_by splits by degrees s ends l blocks a b
  ends_neither o g h z = rw (o, g, h, z.0, z.1, z.2)

  -- one end is split, by what was found round about it
  pub ends_one : (v w : Vertex) → splits ≡ One v w → changed s' l' blocks' m ring ≡ split_by by.first degrees s ends l blocks v.0 w.0
      → changed s' l' blocks' m ring ≡ ends_by splits by degrees s ends l blocks a b
  ends_one v w o g = rw o g

  -- both ends are split, by what was found round about them
  pub ends_both : splits ≡ Both → changed s' l' blocks' m ring ≡ both_by by degrees s ends l blocks a b
      → changed s' l' blocks' m ring ≡ ends_by splits by degrees s ends l blocks a b
  ends_both o g = rw o g

-- looked for and then split is split at once
one_found : (degrees s ends l : List ℕ) (blocks v w n : ℕ) (rings : Bool)
    → split_by (rounds_one degrees s ends v w n rings).first degrees s ends l blocks v w ≡ split_one_in degrees s ends l blocks v w n rings
unfolding rounds_one split_in
one_found degrees s ends l blocks v w n true = refl
one_found degrees s ends l blocks v w n false = refl

both_found : (degrees s ends l : List ℕ) (blocks a b n : ℕ) (rings : Bool)
    → both_by (rounds_both degrees s ends a b n rings) degrees s ends l blocks a b ≡ split_two_in degrees s ends l blocks a b n rings
unfolding rounds_both both_by split_both_in sum32
both_found degrees s ends l blocks a b n true = refl
both_found degrees s ends l blocks a b n false = refl

-- the ends split by the rings that were found before are the ends split at once
pub ends_found : (splits : Splits) (degrees s ends l : List ℕ) (blocks a b n : ℕ) (rings : Bool)
    → ends_by splits (rounds_for splits degrees s ends a b n rings) degrees s ends l blocks a b ≡ split_ends_in splits degrees s ends l blocks a b n rings
ends_found Neither degrees s ends l blocks a b n rings = refl
ends_found (One v w) degrees s ends l blocks a b n rings = one_found degrees s ends l blocks v.0 w.0 n rings
ends_found Both degrees s ends l blocks a b n rings = both_found degrees s ends l blocks a b n rings
