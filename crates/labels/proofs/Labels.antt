-- A vertex labelled, a chain relabelled, a chain extended.
use Rattle.std.specs.Prelude.{if◌then◌else◌}
use mathlib.Core.Path.{◌≡◌, refl, sym, ap}
use mathlib.Core.Bool.{Bool, true, false}
use mathlib.Core.List.{List}
use Prim.Native.Nat.{ℕ, zero, suc, ◌+◌, ◌*◌, ◌-◌, ◌<◌, ◌≤◌}
use native.Mathlib.Nat.{not-suc-le-zero, add_assoc, zero-add, add-zero}
use native.Mathlib.Omega.{arith}
use borrow.Author.Tests.{eq-eqb, ne_eqb}
use lib.Dec.{eqb}
use lib.ListN.{get_or, set}
use Rattle.model.specs.Labels.{base, is_relabelled, next}
use Rattle.model.proofs.Basics.Booleans.{one_most}
use Rattle.tables.specs.Steps.{far_in, turn_in, more16, more32, most32}
use Rattle.labels.specs.Labelling.{MarksIn, marks_in, count_ahead, next_in, rises_in, orient_in, label_vertex_in, relabel_in, beyond_in, extend_at, extend_in}

-- the code stops at the largest number, which no label reaches
pub next_in_is : (up : Bool) (label : ℕ) → label < most32 → next_in up label ≡ next up label
unfolding next_in next more32
next_in_is true label h = omega arith
next_in_is false label h = refl

-- a label and two sides stored, and the test of the old label, are what labelling a vertex is
pub label_law : (s l s' l' : List ℕ) (v label before after old n : ℕ) (up r : Bool) → old ≡ get_or l v 0 → l' ≡ set l v label
    → s' ≡ orient_in up s v before after → r ≡ is_relabelled old label → n ≡ (if r then 1 else 0)
    → marks_in s' l' n ≡ label_vertex_in s l v label before after up
unfolding label_vertex_in
label_law s l s' l' v label before after old n up r a b c d e = rw (← a, ← b, ← c, ← d, ← e)

-- a vertex is relabelled at most once
pub label_le : (s l s' l' : List ℕ) (v label before after n : ℕ) (up : Bool)
    → marks_in s' l' n ≡ label_vertex_in s l v label before after up → n ≤ 1
unfolding label_vertex_in
label_le s l s' l' v label before after n up e = rw (ap (λ (w : MarksIn). w.count) e) (one_most (is_relabelled (get_or l v 0) label))

-- nothing counted before leaves the count
pub ahead_none : (w : MarksIn) → w ≡ count_ahead 0 w
unfolding count_ahead
ahead_none w = rw zero-add

-- the loop ends where the chain does
pub loop_end : (s l : List ℕ) (k : ℕ) (w : MarksIn) → w ≡ marks_in s l 0 → marks_in s l k ≡ count_ahead k w
unfolding count_ahead
loop_end s l k w e = rw (e, add-zero)

ahead_twice : (j k : ℕ) (w : MarksIn) → count_ahead j (count_ahead k w) ≡ count_ahead (j + k) w
unfolding count_ahead
ahead_twice j k w = rw add_assoc

module _ (degrees ends : List ℕ) (up : Bool) where
  -- no step is left, or the walk is at a singular vertex: nothing changes
  pub relabel_none : (n : ℕ) (s l : List ℕ) (d v label : ℕ) → n ≤ 0 → relabel_in degrees ends up n s l d v label ≡ marks_in s l 0
  unfolding relabel_in
  relabel_none zero s l d v label h = refl
  relabel_none (suc n) s l d v label h = absurd (not-suc-le-zero h)

  pub relabel_end : (n : ℕ) (s l : List ℕ) (d v label : ℕ) → (get_or degrees v 0 ≡ 2 → ⊥)
      → relabel_in degrees ends up n s l d v label ≡ marks_in s l 0
  unfolding relabel_in
  relabel_end zero s l d v label h = refl
  relabel_end (suc n) s l d v label h = rw (ne_eqb _ _ h)

  -- a regular vertex is labelled, and then those behind it from the next label on
  pub relabel_on : (n : ℕ) (s l : List ℕ) (d v label d' v' label' : ℕ) → get_or degrees v 0 ≡ 2
      → turn_in s d v ≡ d' → far_in ends d' v ≡ v' → next_in up label ≡ label'
      → let w = label_vertex_in s l v label d d' up in
      relabel_in degrees ends up (suc n) s l d v label ≡ count_ahead w.count (relabel_in degrees ends up n w.sides w.labels d' v' label')
  unfolding relabel_in
  relabel_on n s l d v label d' v' label' e f g i = rw (eq-eqb _ _ e, f, g, i)

  -- turn i of the loop, k vertices having been relabelled before
  pub loop_step : (n i : ℕ) (s l s' l' : List ℕ) (d v label d' v' label' k m : ℕ) → i < n → get_or degrees v 0 ≡ 2
      → d' ≡ turn_in s d v → v' ≡ far_in ends d' v → label' ≡ next_in up label
      → marks_in s' l' m ≡ label_vertex_in s l v label d d' up
      → count_ahead k (relabel_in degrees ends up (n - i) s l d v label)
      ≡ count_ahead (k + m) (relabel_in degrees ends up (n - (i + 1)) s' l' d' v' label')
  loop_step n i s l s' l' d v label d' v' label' k m h e f g j o =
      let next : n - i ≡ suc (n - (i + 1)) = omega (arith, h) in
      rw (next, relabel_on (n - (i + 1)) s l d v label d' v' label' e (sym f) (sym g) (sym j), ← o) (ahead_twice k m _)

  count_if : (b : Bool) (x y : MarksIn) (n : ℕ) → x.count ≤ n → y.count ≤ n → (if b then x else y).count ≤ n
  count_if true x y n h g = h
  count_if false x y n h g = g

  -- a step relabels at most one vertex
  count_le : (n : ℕ) (s l : List ℕ) (d v label : ℕ) → (relabel_in degrees ends up n s l d v label).count ≤ n
  unfolding relabel_in label_vertex_in count_ahead
  count_le zero s l d v label = omega arith
  count_le (suc n) s l d v label =
      let c = turn_in s d v in
      let w = label_vertex_in s l v label d c up in
      count_if (eqb (get_or degrees v 0) 2) _ _ (suc n)
      (omega (
        arith,
        one_most (is_relabelled (get_or l v 0) label),
        count_le n w.sides w.labels c (far_in ends c v) (next_in up label),
      ))
      (omega arith)

  -- n steps relabel at most n vertices
  pub relabel_le : (n : ℕ) (s l s' l' : List ℕ) (d v label m : ℕ)
      → marks_in s' l' m ≡ relabel_in degrees ends up n s l d v label → m ≤ n
  relabel_le n s l s' l' d v label m e = rw (ap (λ (w : MarksIn). w.count) e) (count_le n s l d v label)

-- the leaf x labelled beyond its neighbour u
pub beyond_law : (s l s' l' : List ℕ) (x e d u old label m : ℕ) (up : Bool) → up ≡ rises_in s d u → old ≡ get_or l u 0 → label ≡ next_in up old
    → marks_in s' l' m ≡ label_vertex_in s l x label d e up → marks_in s' l' 0 ≡ beyond_in s l x e d u
unfolding beyond_in
beyond_law s l s' l' x e d u old label m up i j g k = rw (← i, ← j, ← g, ← k)

-- the chain at the leaf x, whose one edge is d with the far end u: with regular vertices, and without
module _ (degrees s ends l s' l' : List ℕ) (blocks x e d u : ℕ)
    (a : (d ≡ get_or s (2 * x) 0) × (u ≡ far_in ends d x)) where
  -- u is regular: x gets the label beyond it, and no block begins
  pub extend_on : get_or degrees u 0 ≡ 2 → marks_in s' l' 0 ≡ beyond_in s l x e d u
      → marks_in s' l' blocks ≡ extend_in degrees s ends l blocks x e
  unfolding extend_in extend_at
  extend_on h k = rw (← a.0, ← a.1, eq-eqb _ _ h, ← k)

  -- u is singular: x is the first of its chain with a label, and a block begins
  pub extend_begun : (k label m : ℕ) → (get_or degrees u 0 ≡ 2 → ⊥) → k ≡ more16 blocks → label ≡ base k
      → marks_in s' l' m ≡ label_vertex_in s l x label d e true → marks_in s' l' k ≡ extend_in degrees s ends l blocks x e
  unfolding extend_in extend_at
  extend_begun k label m h i g j = rw (← a.0, ← a.1, ne_eqb _ _ h, ← i, ← g, ← j)
