-- Laws of the counts that are read: the loop along a chain, two chains joined, taps, and that they are those of what was decided.
use Rattle.std.specs.Prelude.{if◌then◌else◌, Some, Option}
use mathlib.Core.Path.{◌≡◌, refl, sym}
use mathlib.Core.Bool.{Bool, true, false}
use mathlib.Core.List.{List}
use Prim.Native.Nat.{ℕ, zero, suc, ◌+◌, ◌*◌, ◌-◌, ◌<◌, ◌≤◌}
use native.Mathlib.Nat.{not-suc-le-zero}
use native.Mathlib.Omega.{arith}
use borrow.Author.Tests.{eq-eqb, ne_eqb}
use lib.Dec.{eqb}
use lib.ListN.{get_or}
use Rattle.model.specs.Labels.{is_relabelled}
use Rattle.model.proofs.Basics.Booleans.{one_most}
use Rattle.counters.specs.declared.numbers.Vertex.{Vertex}
use Rattle.tables.specs.Steps.{far_in, turn_in}
use Rattle.tables.specs.Walks.{Met}
use Rattle.tables.specs.declared.rings.Round.{Round}
use Rattle.tables.specs.declared.rings.Round.TheVariants.{Shared}
use Rattle.labels.specs.Labelling.{next_in, rises_in}
use Rattle.joining.specs.Merging.{merger_at, merger_for, keeping}
use Rattle.parting.specs.Splitting.{rounds_one, rounds_both, rounds_for}
use Rattle.parting.specs.declared.splitting.Splits.{Splits}
use Rattle.parting.specs.declared.splitting.Splits.TheVariants as splits
use Rattle.counting.specs.Counting.{count_in, join_count_in, keeper_count_in, merge_count_at, merge_count_in, merger_count, moved_in, round_count, rounds_count, split_count_in}
use Rattle.joining.specs.declared.merging.Keeper.{Keeper}

-- one vertex counts at most 1
pub moved_le : (m old new : ℕ) → m ≡ moved_in old new → m ≤ 1
unfolding moved_in
moved_le m old new e = rw e (one_most (is_relabelled old new))

-- a vertex counts 1 where the test of its old label and the new one says so
pub moved_law : (was label old n : ℕ) (r : Bool) → old ≡ was → r ≡ is_relabelled old label → n ≡ (if r then 1 else 0) → n ≡ moved_in was label
unfolding moved_in
moved_law was label old n r a b e = rw (← a, ← b) e

module _ (degrees sides ends labels : List ℕ) (up : Bool) where
  pub count_none : (n d v label : ℕ) → n ≤ 0 → count_in degrees sides ends labels up n d v label ≡ 0
  unfolding count_in
  count_none zero d v label h = refl
  count_none (suc n) d v label h = absurd (not-suc-le-zero h)

  -- at a singular vertex nothing more is counted
  pub count_end : (n d v label : ℕ) → (get_or degrees v 0 ≡ 2 → ⊥) → count_in degrees sides ends labels up n d v label ≡ 0
  unfolding count_in
  count_end zero d v label h = refl
  count_end (suc n) d v label h = rw (ne_eqb _ _ h)

  -- a regular vertex is counted, and then those behind it with the next label
  pub count_on : (n d v label d' v' label' : ℕ) → get_or degrees v 0 ≡ 2 → turn_in sides d v ≡ d' → far_in ends d' v ≡ v' → next_in up label ≡ label'
      → count_in degrees sides ends labels up (suc n) d v label ≡ moved_in (get_or labels v 0) label + count_in degrees sides ends labels up n d' v' label'
  unfolding count_in
  count_on n d v label d' v' label' e f g i = rw (eq-eqb _ _ e, f, g, i)

  -- turn i of the loop, k vertices having been counted before
  pub count_step : (n i d v label d' v' label' k m : ℕ) → i < n → get_or degrees v 0 ≡ 2 → d' ≡ turn_in sides d v → v' ≡ far_in ends d' v
      → label' ≡ next_in up label → m ≡ moved_in (get_or labels v 0) label
      → k + count_in degrees sides ends labels up (n - i) d v label ≡ k + m + count_in degrees sides ends labels up (n - (i + 1)) d' v' label'
  count_step n i d v label d' v' label' k m h e f g j o =
      let next : n - i ≡ suc (n - (i + 1)) = omega (arith, h) in
      rw (next, count_on (n - (i + 1)) d v label d' v' label' e (sym f) (sym g) (sym j), ← o) (omega arith)

  -- the loop is done: no step is left, or it stands at a singular vertex
  pub count_done : (n d v label k total : ℕ) → n ≤ 0 → k + count_in degrees sides ends labels up n d v label ≡ total → k ≡ total
  count_done n d v label k total h e = omega (arith, count_none n d v label h, e)

  pub count_stop : (n d v label k total : ℕ) → (get_or degrees v 0 ≡ 2 → ⊥) → k + count_in degrees sides ends labels up n d v label ≡ total → k ≡ total
  count_stop n d v label k total h e = omega (arith, count_end n d v label h, e)

-- x's chain would keep its labels
pub join_count : (degrees s ends l : List ℕ) (x y n dx dy ux uy old lx ly lz r : ℕ) (up : Bool)
    → (dx ≡ get_or s (2 * x) 0) × (ux ≡ far_in ends dx x) → (dy ≡ get_or s (2 * y) 0) × (uy ≡ far_in ends dy y)
    → up ≡ rises_in s dx ux → old ≡ get_or l ux 0 → lx ≡ next_in up old → ly ≡ next_in up lx → lz ≡ next_in up ly
    → r ≡ count_in degrees s ends l up n dy uy lz → r ≡ join_count_in degrees s ends l x y n
unfolding join_count_in
join_count degrees s ends l x y n dx dy ux uy old lx ly lz r up a b f g h i j k =
    rw (← a.0, ← a.1, ← b.0, ← b.1, ← f, ← g, ← h, ← i, ← j) k

-- the count by the keeper, where that is the chain of x
pub chain_count : (degrees s ends l : List ℕ) (n c : ℕ) (keeper : Option Keeper) (x y : Vertex) → keeper ≡ Some (keeping x y) → c ≡ join_count_in degrees s ends l x.0 y.0 n
    → c ≡ keeper_count_in keeper degrees s ends l n
chain_count degrees s ends l n c keeper x y e f = rw e f

-- ---- taps

-- the other end shares the ring: it loses its label, and is not counted
pub shared_round : (round : Round) (n m : ℕ) → round ≡ Shared n → m ≡ n - 1 → m ≡ round_count round
shared_round round n m e f = rw e f

-- ---- counted of what was decided is counted at once

merged_at : (degrees s ends l : List ℕ) (a b n : ℕ) (m : Met) (t : Bool) → eqb m.first b ≡ t
    → merger_count (merger_at degrees a b m) degrees s ends l n ≡ merge_count_at degrees s ends l a b n m
unfolding merger_at merge_count_at
merged_at degrees s ends l a b n m true o = rw o
merged_at degrees s ends l a b n m false o = rw o

-- the count of a merge by what was decided is the count of the merge
pub merger_counts : (degrees s ends l : List ℕ) (a b n : ℕ)
    → merger_count (merger_for degrees s ends a b n) degrees s ends l n ≡ merge_count_in degrees s ends l a b n
unfolding merger_for merge_count_in
merger_counts degrees s ends l a b n = merged_at degrees s ends l a b n _ _ refl

-- the count of a split by the rings that were found is the count of the split
pub rounds_count_lem : (x : Splits) (degrees s ends : List ℕ) (a b n : ℕ) (rings : Bool)
    → rounds_count (rounds_for x degrees s ends a b n rings) ≡ split_count_in x degrees s ends a b n rings
unfolding split_count_in rounds_one rounds_both
rounds_count_lem splits.Neither degrees s ends a b n rings = refl
rounds_count_lem (splits.One v w) degrees s ends a b n true = omega arith
rounds_count_lem (splits.One v w) degrees s ends a b n false = refl
rounds_count_lem splits.Both degrees s ends a b n true = refl
rounds_count_lem splits.Both degrees s ends a b n false = refl
