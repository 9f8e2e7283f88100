-- Ghost state of the labels: the blocks, and how their labels lie on the course of their group.
use mathlib.Core.Path.{◌≡◌}
use mathlib.Core.Logic.{◌≢◌}
use Prim.Native.Nat.{ℕ, ◌+◌, ◌-◌, ◌*◌, ◌≤◌, ◌<◌}
use native.Mathlib.Omega.{arith}
use native.Mathlib.Nat.{not-suc-le-zero}
use mathlib.Core.Bool.{Bool, true, false}
use mathlib.Core.List.{List, []}
use lib.ListN.{length}
use Rattle.model.specs.Graph.{Edge, degree}
use Rattle.model.specs.Labels.{Marks, base}
use Rattle.model.proofs.Walks.Turn.{At}
use Rattle.model.proofs.Labels.Following.{label_at, low_at}
use Rattle.theory.proofs.Groups.Shape.{Shape, size, Successive, no_shape}

-- For each regular vertex: its block. For each block: its group, the place where its base would stand on the group's course, and
-- whether its labels rise along it.
pub record Origins : Type 0 where
  pub block : ℕ → ℕ
  pub owner : ℕ → ℕ
  pub origin : ℕ → ℕ
  pub rising : ℕ → Bool

-- label t stands at place i of a course on which base b would stand at place q, rising or falling
abbrev pub Fits : Bool → ℕ → ℕ → ℕ → ℕ → Type 0
Fits true q b i t = t + q ≡ b + i
Fits false q b i t = t + i ≡ b + q

-- the low edge is the one before where labels rise, the one after where they fall
abbrev pub LowIs : Bool → ℕ → ℕ → ℕ → Type 0
LowIs true lo hi l = l ≡ lo
LowIs false lo hi l = l ≡ hi

-- how far two numbers are apart
unfoldable pub gap : ℕ → ℕ → ℕ
gap a b = (a - b) + (b - a)

-- .. on the course of block k
abbrev pub FitsBlock : Origins → ℕ → ℕ → ℕ → Type 0
FitsBlock l k i t = Fits (l.rising k) (l.origin k) (base k) i t

-- how far the label of v is from the base of its block
abbrev pub offset : Marks → Origins → ℕ → ℕ
offset m l v = gap (label_at m v) (base (l.block v))

-- block k lies in group g, of size s, and its labels rise if `up`
pub record BlockAt (l : Origins) (blocks g s : ℕ) (up : Bool) (k : ℕ) : Type 0 where
  pub least : 1 ≤ k
  pub most : k ≤ blocks
  pub owner_is : l.owner k ≡ g
  pub rising_is : l.rising k ≡ up
  pub first : 1 ≤ l.origin k
  pub last : l.origin k ≤ s

-- a regular vertex of an open group: its place, and its label by its place
pub record Stand (es : List Edge) (m : Marks) (h : Shape) (l : Origins) (v g : ℕ) : Type 0 where
  pub between : Successive es h v g
  pub first : 1 ≤ l.origin (l.block v)
  pub last : l.origin (l.block v) < size h (length es) g
  pub fits : FitsBlock l (l.block v) (h.place between.hi) (label_at m v)
  pub low_is : LowIs (l.rising (l.block v)) between.lo between.hi (low_at m v)

-- The invariant of the labels: blocks keep to their groups, and labels to their places or, where the course is closed, near their bases.
pub record Aligned (es : List Edge) (m : Marks) (blocks : ℕ) (h : Shape) (l : Origins) : Type 0 where
  -- a vertex's block is of its edges' group, is one of the blocks made, and is its neighbours' block
  pub owned : (v e : ℕ) → degree es v ≡ 2 → At es v e → l.owner (l.block v) ≡ h.group e
  pub least : (v : ℕ) → degree es v ≡ 2 → 1 ≤ l.block v
  pub most : (v : ℕ) → degree es v ≡ 2 → l.block v ≤ blocks
  pub along : (v w e : ℕ) → degree es v ≡ 2 → degree es w ≡ 2 → At es v e → At es w e → l.block v ≡ l.block w
  -- open groups
  pub stands : (v e : ℕ) → degree es v ≡ 2 → At es v e → h.is_open (h.group e) ≡ true → Stand es m h l v (h.group e)
  -- closed groups: labels of one block differ; all are near their bases, and two of different blocks together too
  pub single : (v w e c : ℕ) → degree es v ≡ 2 → degree es w ≡ 2 → At es v e → At es w c → h.is_open (h.group e) ≡ false → h.group c ≡ h.group e
      → l.block v ≡ l.block w → label_at m v ≡ label_at m w → v ≡ w
  pub within : (v e : ℕ) → degree es v ≡ 2 → At es v e → h.is_open (h.group e) ≡ false → offset m l v + 1 ≤ 2 * size h (length es) (h.group e)
  pub within_two : (v w e c : ℕ) → degree es v ≡ 2 → degree es w ≡ 2 → At es v e → At es w c → h.is_open (h.group e) ≡ false → h.group c ≡ h.group e
      → l.block v ≢ l.block w → offset m l v + offset m l w + 1 ≤ 2 * size h (length es) (h.group e)

-- ---- no edges

-- without edges there are no blocks, and nothing is to align
pub no_origins : Origins
no_origins = record { block = λ v. 0; owner = λ k. 0; origin = λ k. 0; rising = λ k. true }

pub no_aligned : (m : Marks) → Aligned [] m 0 no_shape no_origins
unfolding degree
no_aligned m = record {
  owned = λ v e c a. absurd (not-suc-le-zero a.inside);
  least = λ v c. absurd (omega arith);
  most = λ v c. absurd (omega arith);
  along = λ v w e c d a. absurd (not-suc-le-zero a.inside);
  stands = λ v e c a. absurd (not-suc-le-zero a.inside);
  single = λ v w e c d f a. absurd (not-suc-le-zero a.inside);
  within = λ v e c a. absurd (not-suc-le-zero a.inside);
  within_two = λ v w e c d f a. absurd (not-suc-le-zero a.inside);
}

-- ---- labels by their places

-- a label is as near to its base as its place is to the origin
gap_near : (up : Bool) (q b i t c : ℕ) → Fits up q b i t → i ≤ q + c → q ≤ i + c → gap t b ≤ c
unfolding gap
gap_near true q b i t c e f g = omega (arith, e)
gap_near false q b i t c e f g = omega (arith, e)

-- a label is at most c from its base, if its place is at most c from the origin
pub fits_near : (l : Origins) (k i t c : ℕ) → FitsBlock l k i t → i ≤ l.origin k + c → l.origin k ≤ i + c → gap t (base k) ≤ c
fits_near l k i t c e f g = gap_near (l.rising k) (l.origin k) (base k) i t c e f g

fits_one : (up : Bool) (q b i j t : ℕ) → Fits up q b i t → Fits up q b j t → i ≡ j
fits_one true q b i j t e f = omega (arith, e, f)
fits_one false q b i j t e f = omega (arith, e, f)

-- one label of one block, one place
pub fits_same : (l : Origins) (k n i j t u : ℕ) → k ≡ n → t ≡ u → FitsBlock l k i t → FitsBlock l n j u → i ≡ j
fits_same l k n i j t u q r e f = fits_one (l.rising n) (l.origin n) (base n) i j u (rw (q, r) at e) f
