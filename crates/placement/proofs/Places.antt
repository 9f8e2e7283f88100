-- An edge comes to an end, and is placed.
use Rattle.std.specs.Prelude.{Some, None, Option}
use mathlib.Core.Path.{◌≡◌}
use mathlib.Core.Bool.{Bool, false}
use mathlib.Core.List.{List}
use Prim.Native.Nat.{ℕ}
use borrow.Author.Tests.{eq-eqb, ne_eqb}
use lib.ListN.{get_or}
use Rattle.counters.specs.declared.numbers.Vertex.{Vertex}
use Rattle.tables.specs.Steps.{set_pair, raise_both_in}
use Rattle.labels.specs.Labelling.{marks_in, extend_in}
use Rattle.labels.specs.Changes.{changed}
use Rattle.joining.specs.Merging.{merge_by}
use Rattle.parting.specs.Splitting.{ends_by}
use Rattle.joining.specs.declared.merging.Merger.{Merger}
use Rattle.parting.specs.declared.splitting.Rounds.{Rounds}
use Rattle.parting.specs.declared.splitting.Splits.{Splits}
use Rattle.placement.specs.Placing.{meet_in, placed, goes_on_in}
use Rattle.placement.specs.Planning.{opened_by, open_by, merged_by}

module _ (degrees s : List ℕ) (v e : ℕ) where
  -- an isolated vertex gets the edge as its low side; any other keeps its sides
  pub meet_isolated : get_or degrees v 0 ≡ 0 → set_pair s v e 0 ≡ meet_in degrees s v e
  unfolding meet_in
  meet_isolated h = rw (eq-eqb _ _ h)

  pub meet_left : (get_or degrees v 0 ≡ 0 → ⊥) → s ≡ meet_in degrees s v e
  unfolding meet_in
  meet_left h = rw (ne_eqb _ _ h)

-- both ends opened, and then a leaf's chain goes on
module _ (degrees s ends l degrees' s' l' : List ℕ) (blocks a b blocks' m e : ℕ) (ring : Bool) (splits : Splits) (rounds : Rounds) where
  -- the ends split that are to be, the edge come to both and both degrees raised: both ends are opened
  pub opened_law : (s₁ s₂ : List ℕ) → changed s₁ l' blocks' m ring ≡ ends_by splits rounds degrees s ends l blocks a b
      → s₂ ≡ meet_in degrees s₁ a e → s' ≡ meet_in degrees s₂ b e → degrees' ≡ raise_both_in degrees a b
      → placed degrees' s' l' blocks' m ring ≡ opened_by splits rounds degrees s ends l blocks a b e
  unfolding opened_by
  opened_law s₁ s₂ h i j k = rw (← h, ← i, ← j, ← k)

  -- where no chain goes on, the edge is placed once both ends are opened
  pub open_nothing : (extension : Option Vertex) → extension ≡ None
      → placed degrees' s' l' blocks' m ring ≡ opened_by splits rounds degrees s ends l blocks a b e
      → placed degrees' s' l' blocks' m ring ≡ open_by splits rounds extension degrees s ends l blocks a b e
  open_nothing extension o h = rw o h

  -- where the chain of the leaf x goes on, it does so once both ends are opened
  pub open_leaf : (extension : Option Vertex) (x : Vertex) (s₁ l₁ : List ℕ) (k₁ k m₁ : ℕ) (ring₁ : Bool) → extension ≡ Some x
      → placed degrees' s₁ l₁ k₁ m₁ ring₁ ≡ opened_by splits rounds degrees s ends l blocks a b e
      → marks_in s' l' k ≡ extend_in degrees' s₁ ends l₁ k₁ x.0 e → (blocks' ≡ k) × (m ≡ m₁) × (ring ≡ false)
      → placed degrees' s' l' blocks' m ring ≡ open_by splits rounds extension degrees s ends l blocks a b e
  unfolding goes_on_in
  open_leaf extension x s₁ l₁ k₁ k m₁ ring₁ o h g z = rw (o, z.0, z.1, z.2, ← h, ← g)

module _ (degrees s ends l degrees' s' l' : List ℕ) (blocks a b blocks' m e : ℕ) (ring : Bool) (by : Merger) where
  -- two chains merged and both degrees raised: the edge between two leaves is placed
  pub merged_law : changed s' l' blocks' m ring ≡ merge_by by degrees s ends l blocks a b e e → degrees' ≡ raise_both_in degrees a b
      → placed degrees' s' l' blocks' m ring ≡ merged_by by degrees s ends l blocks a b e
  unfolding merged_by
  merged_law h j = rw (← h, ← j)
