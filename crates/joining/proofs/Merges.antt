-- Two chains joined, a chain begun, a ring closed, and the ways out of a merge.
use Rattle.std.specs.Prelude.{Some, None, Option}
use mathlib.Core.Path.{◌≡◌, refl}
use mathlib.Core.Bool.{Bool, true, false}
use mathlib.Core.List.{List}
use Prim.Native.Nat.{ℕ, ◌+◌, ◌*◌, ◌<◌}
use native.Mathlib.Omega.{arith}
use borrow.Author.Tests.{eq-eqb, ne_eqb}
use lib.Dec.{eqb}
use lib.ListN.{get_or}
use Rattle.model.specs.Labels.{base}
use Rattle.counters.specs.Numbers.{vertex_of}
use Rattle.counters.specs.declared.numbers.Vertex.{Vertex}
use Rattle.tables.specs.Steps.{far_in, more16, more32}
use Rattle.tables.specs.Walks.{Met, lockstep_in}
use Rattle.labels.specs.Labelling.{marks_in, count_ahead, rises_in, label_vertex_in, relabel_in, beyond_in, next_in}
use Rattle.labels.specs.Changes.{changed}
use Rattle.joining.specs.Merging.{join_in, begin_in, close_in, keeper_for, keeper_in, merge_at, merge_in, merger, merger_at, merger_for, merge_by, keeping}
use Rattle.joining.specs.declared.merging.Keeper.{Keeper}
use Rattle.joining.specs.declared.merging.Merger.{Merger}

-- x and y labelled after x's chain, and then y's chain after them: the chains are joined
pub join_law : (degrees s ends l s₁ l₁ s₂ l₂ s₃ l₃ : List ℕ) (x y e n dx dy ux uy old lx ly ly' m₁ m₂ m₃ : ℕ) (up : Bool)
    → (dx ≡ get_or s (2 * x) 0) × (ux ≡ far_in ends dx x) → (dy ≡ get_or s (2 * y) 0) × (uy ≡ far_in ends dy y)
    → up ≡ rises_in s dx ux → old ≡ get_or l ux 0 → lx ≡ next_in up old → ly ≡ next_in up lx
    → marks_in s₁ l₁ m₁ ≡ label_vertex_in s l x lx dx e up → marks_in s₂ l₂ m₂ ≡ label_vertex_in s₁ l₁ y ly e dy up
    → ly' ≡ next_in up ly → marks_in s₃ l₃ m₃ ≡ relabel_in degrees ends up n s₂ l₂ dy uy ly'
    → marks_in s₃ l₃ (m₁ + (m₂ + m₃)) ≡ join_in degrees s ends l x y e n
unfolding join_in count_ahead
join_law degrees s ends l s₁ l₁ s₂ l₂ s₃ l₃ x y e n dx dy ux uy old lx ly ly' m₁ m₂ m₃ up a b f g h i j k o p =
    rw (← a.0, ← a.1, ← b.0, ← b.1, ← f, ← g, ← h, ← i, ← j, ← k, ← o, ← p)

-- a base is far below the largest label
base_next : (k : ℕ) → k < 65536 → next_in true (base k) ≡ base k + 1
unfolding next_in more32 base
base_next k h = omega arith

-- two neighbours labelled from the base of block k on: their chain is begun
pub begin_law : (s l s₁ l₁ s₂ l₂ : List ℕ) (a before b after between k low up m₁ m₂ : ℕ) → k < 65536 → low ≡ base k
    → marks_in s₁ l₁ m₁ ≡ label_vertex_in s l a low before between true → up ≡ next_in true low
    → marks_in s₂ l₂ m₂ ≡ label_vertex_in s₁ l₁ b up between after true
    → marks_in s₂ l₂ 0 ≡ begin_in s l a before b after between k
unfolding begin_in
begin_law s l s₁ l₁ s₂ l₂ a before b after between k low up m₁ m₂ f h i g j = rw (← base_next k f, ← h, ← g, ← i, ← j)

-- which chain keeps its labels, the walks having met at m
module _ (degrees : List ℕ) (a b : ℕ) (m : Met) where
  -- the second walk had not ended: b's chain keeps its labels
  pub second_keeps : get_or degrees m.second 0 ≡ 2 → Some (keeping (vertex_of b) (vertex_of a)) ≡ keeper_for degrees a b m
  unfolding keeper_for
  second_keeps h = rw (eq-eqb _ _ h)

  module _ (h : get_or degrees m.second 0 ≡ 2 → ⊥) where
    -- the second walk had ended, the first had not: a's chain keeps its labels
    pub first_keeps : get_or degrees m.first 0 ≡ 2 → Some (keeping (vertex_of a) (vertex_of b)) ≡ keeper_for degrees a b m
    unfolding keeper_for
    first_keeps i = rw (ne_eqb _ _ h, eq-eqb _ _ i)

    -- both walks had ended without a step: neither chain keeps labels
    pub neither_keeps : (get_or degrees m.first 0 ≡ 2 → ⊥) → m.steps ≡ 0 → None ≡ keeper_for degrees a b m
    unfolding keeper_for
    neither_keeps i j = rw (ne_eqb _ _ h, ne_eqb _ _ i, eq-eqb _ _ j)

    -- both walks had ended, after a step or more: a's chain keeps its labels
    pub tie_keeps : (get_or degrees m.first 0 ≡ 2 → ⊥) → (m.steps ≡ 0 → ⊥) → Some (keeping (vertex_of a) (vertex_of b)) ≡ keeper_for degrees a b m
    unfolding keeper_for
    tie_keeps i j = rw (ne_eqb _ _ h, ne_eqb _ _ i, ne_eqb _ _ j)

module _ (degrees s ends l : List ℕ) (blocks a b e n da ua db ub : ℕ) (m : Met) (h : (da ≡ get_or s (2 * a) 0) × (ua ≡ far_in ends da a))
    (i : (db ≡ get_or s (2 * b) 0) × (ub ≡ far_in ends db b)) (is : m ≡ lockstep_in degrees s ends n da ua db ub) where
  -- the first walk came to b: the merge closes a ring
  pub merge_closes : m.first ≡ b → close_in s l blocks a b e da ua db ub ≡ merge_in degrees s ends l blocks a b e n
  unfolding merge_in merge_at
  merge_closes o = rw (← h.0, ← h.1, ← i.0, ← i.1, ← is, eq-eqb _ _ o)

  -- the first walk did not come to b: the merge goes by which chain keeps its labels
  pub merge_kept : (keeper : Option Keeper) → (m.first ≡ b → ⊥) → keeper ≡ keeper_for degrees a b m
      → keeper_in keeper degrees s ends l blocks a b e n da db ≡ merge_in degrees s ends l blocks a b e n
  unfolding merge_in merge_at
  merge_kept keeper o k = rw (← h.0, ← h.1, ← i.0, ← i.1, ← is, ne_eqb _ _ o, ← k)

-- what the walks decide, having met at m
module _ (degrees s ends : List ℕ) (a b n da ua db ub : ℕ) (m : Met) (h : (da ≡ get_or s (2 * a) 0) × (ua ≡ far_in ends da a))
    (i : (db ≡ get_or s (2 * b) 0) × (ub ≡ far_in ends db b)) (is : m ≡ lockstep_in degrees s ends n da ua db ub) where
  -- the first walk came to b: a ring is to be closed
  pub merger_closes : m.first ≡ b → merger true None ≡ merger_for degrees s ends a b n
  unfolding merger_for merger_at
  merger_closes o = rw (← h.0, ← h.1, ← i.0, ← i.1, ← is, eq-eqb _ _ o)

  -- the first walk did not come to b: one of the chains is to keep its labels, or neither
  pub merger_joins : (keeper : Option Keeper) → (m.first ≡ b → ⊥) → keeper ≡ keeper_for degrees a b m → merger false keeper ≡ merger_for degrees s ends a b n
  unfolding merger_for merger_at
  merger_joins keeper o k = rw (← h.0, ← h.1, ← i.0, ← i.1, ← is, ne_eqb _ _ o, ← k)

-- the chains merged as decided
module _ (degrees s ends l : List ℕ) (blocks a b e n da ua db ub : ℕ) (by : Merger) (h : (da ≡ get_or s (2 * a) 0) × (ua ≡ far_in ends da a))
    (i : (db ≡ get_or s (2 * b) 0) × (ub ≡ far_in ends db b)) where
  -- where a ring was decided on, it is closed
  pub by_closing : by.ring ≡ true → close_in s l blocks a b e da ua db ub ≡ merge_by by degrees s ends l blocks a b e n
  unfolding merge_by
  by_closing o = rw (← h.0, ← h.1, ← i.0, ← i.1, o)

  -- where no ring was decided on, the merge goes by the keeper that was
  pub by_joining : by.ring ≡ false → keeper_in by.keeper degrees s ends l blocks a b e n da db ≡ merge_by by degrees s ends l blocks a b e n
  unfolding merge_by
  by_joining o = rw (← h.0, ← i.0, o)

-- decided and then done is done at once
decided_at : (degrees s ends l : List ℕ) (blocks a b e n : ℕ) (m : Met) (t : Bool) → eqb m.first b ≡ t
    → merge_by (merger_at degrees a b m) degrees s ends l blocks a b e n
    ≡ merge_at degrees s ends l blocks a b e n (get_or s (2 * a) 0) (get_or s (2 * b) 0) m
unfolding merge_by merger_at merge_at
decided_at degrees s ends l blocks a b e n m true o = rw o
decided_at degrees s ends l blocks a b e n m false o = rw o

-- a merge by what the walks decided before is the merge at once
pub merge_decided : (degrees s ends l : List ℕ) (blocks a b e n : ℕ)
    → merge_by (merger_for degrees s ends a b n) degrees s ends l blocks a b e n ≡ merge_in degrees s ends l blocks a b e n
unfolding merger_for merge_in
merge_decided degrees s ends l blocks a b e n = decided_at degrees s ends l blocks a b e n _ _ refl

-- what the code answers, by the chain that keeps its labels
module _ (degrees s ends l s' l' : List ℕ) (blocks a b e n da db blocks' m' : ℕ) (ring : Bool) (keeper : Option Keeper) where
  -- one chain keeps its labels: both are joined, and no block begins
  pub answer_joined : (x y : Vertex) (m : ℕ) → keeper ≡ Some (keeping x y) → marks_in s' l' m ≡ join_in degrees s ends l x.0 y.0 e n
      → (blocks' ≡ blocks) × (m' ≡ m) × (ring ≡ false) → changed s' l' blocks' m' ring ≡ keeper_in keeper degrees s ends l blocks a b e n da db
  answer_joined x y m o j z = rw (o, z.0, z.1, z.2, ← j)

  -- neither chain keeps labels: the two leaves begin a block
  pub answer_begun : (k : ℕ) → keeper ≡ None → k ≡ more16 blocks → marks_in s' l' 0 ≡ begin_in s l a da b db e k
      → (blocks' ≡ k) × (m' ≡ 0) × (ring ≡ false) → changed s' l' blocks' m' ring ≡ keeper_in keeper degrees s ends l blocks a b e n da db
  answer_begun k o r j z = rw (o, z.0, z.1, z.2, ← r, ← j)

-- a ring is closed
module _ (s l s' l' : List ℕ) (blocks a b e da ua db ub blocks' m' : ℕ) (ring : Bool) where
  -- leaves that are neighbours already begin a block
  pub closes_begun : (k : ℕ) → ua ≡ b → k ≡ more16 blocks → marks_in s' l' 0 ≡ begin_in s l a e b e da k
      → (blocks' ≡ k) × (m' ≡ 0) × (ring ≡ true) → changed s' l' blocks' m' ring ≡ close_in s l blocks a b e da ua db ub
  unfolding close_in
  closes_begun k o r j z = rw (eq-eqb _ _ o, z.0, z.1, z.2, ← r, ← j)

  -- leaves that are not neighbours each get the label beyond their own neighbour's
  pub closes_on : (s₁ l₁ : List ℕ) → (ua ≡ b → ⊥) → marks_in s₁ l₁ 0 ≡ beyond_in s l a e da ua
      → marks_in s' l' 0 ≡ beyond_in s₁ l₁ b e db ub → (blocks' ≡ blocks) × (m' ≡ 0) × (ring ≡ true)
      → changed s' l' blocks' m' ring ≡ close_in s l blocks a b e da ua db ub
  unfolding close_in
  closes_on s₁ l₁ o g h z = rw (ne_eqb _ _ o, z.0, z.1, z.2, ← g, ← h)
