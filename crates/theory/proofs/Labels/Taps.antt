-- The taps of an edge, and what they leave of the labels. A tap is seen in two steps: all of the ring gets a new block, x too; then x is bared
-- like any vertex that is split. So what is left after the taps differs from what lands only where an end of the edge is bared.
use mathlib.Core.Path.{◌≡◌}
use mathlib.Core.Logic.{◌≢◌, ◌⊎◌}
use Prim.Native.Nat.{ℕ, suc, ◌+◌, ◌-◌, ◌≤◌}
use mathlib.Core.Bool.{true}
use mathlib.Core.List.{List}
use lib.ListN.{length}
use Rattle.model.specs.Graph.{Edge, Pass, degree, ends_at}
use Rattle.model.specs.Labels.{Labelling, Marks, base, mark, relabel_count, vertex_on_ring}
use Rattle.model.proofs.Walks.Places.{InPath, Off}
use Rattle.model.proofs.Walks.Tours.{Tour}
use Rattle.model.proofs.Labels.Following.{following}
use Rattle.theory.proofs.Labels.Splits.{Bare}

-- the labels from t + 1 on go to the path, the next one to x, whose low edge is then q
unfoldable pub relaid : ℕ → (x q : ℕ) → List Pass → Marks → Marks
relaid t x q path m = mark x (t + suc (length path)) q (following true t path m)

-- the number before the base of block k
abbrev pub before : ℕ → ℕ
before k = base k - 1

-- the taps of an edge on es: the blocks and the marks after them, and how many labels they change at most
pub data Taps (es : List Edge) (p : Edge) (blocks : ℕ) (m : Marks) (blocks₁ : ℕ) (m₁ : Marks) (k : ℕ) : Type 0 where
  no_tap : blocks₁ ≡ blocks → m₁ ≡ m → k ≡ 0 → Taps es p blocks m blocks₁ m₁ k
  one_tap : (x d q : ℕ) (path : List Pass) → ends_at x p ≡ 1 → Tour es x d q path → blocks₁ ≡ blocks + 1 → m₁ ≡ relaid (before (blocks + 1)) x q path m → k ≡ length path
      → Taps es p blocks m blocks₁ m₁ k
  two_taps : (x d q : ℕ) (path : List Pass) (y d' q' : ℕ) (path' : List Pass) → ends_at x p ≡ 1 → ends_at y p ≡ 1 → x ≢ y → Off path y
      → Tour es x d q path → Tour es y d' q' path' → blocks₁ ≡ blocks + 1 + 1
      → m₁ ≡ relaid (before (blocks + 1 + 1)) y q' path' (relaid (before (blocks + 1)) x q path m) → k ≡ length path + length path'
      → Taps es p blocks m blocks₁ m₁ k

-- the taps go round v
abbrev pub Toured : {es : List Edge} {p : Edge} {blocks : ℕ} {m : Marks} {blocks₁ : ℕ} {m₁ : Marks} {k : ℕ} → Taps es p blocks m blocks₁ m₁ k → ℕ → Type 0
Toured (no_tap b n z) v = ⊥
Toured (one_tap x d q path o t b n z) v = (v ≡ x) ⊎ InPath path v
Toured (two_taps x d q path y d' q' path' o o' xy f t t' b n z) v = ((v ≡ x) ⊎ InPath path v) ⊎ ((v ≡ y) ⊎ InPath path' v)

-- what an edge leaves at its ends that were regular
pub record Bared (es : List Edge) (p : Edge) (blocks : ℕ) (m : Marks) (l : Labelling) : Type 0 where
  pub after : Marks
  pub k : ℕ
  pub taps : Taps es p blocks m l.blocks after k
  -- an end that lies on a ring lies on one that is tapped
  pub covered : (v : ℕ) → ends_at v p ≡ 1 → degree es v ≡ 2 → vertex_on_ring es v ≡ true → Toured taps v
  pub bare : Bare es p after l.marks
  pub moves : (ts : List ℕ) → relabel_count ts l.marks.labels ≤ relabel_count ts m.labels + k
