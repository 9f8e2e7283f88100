-- The six cases of one more edge, by two tests of each end: is it a leaf, is it regular.
use Rattle.std.specs.Prelude.{if◌then◌else◌}
use mathlib.Core.Path.{◌≡◌, refl}
use Prim.Native.Nat.{ℕ, zero, suc}
use native.Mathlib.Omega.{arith}
use mathlib.Core.Bool.{Bool, true, false}
use mathlib.Core.List.{List, [], ◌∷◌, ◌++◌}
use lib.Dec.{eqb}
use borrow.Author.Tests.{ne_eqb}
use Rattle.model.specs.Graph.{Edge, degree, is_leaf, is_regular}
use Rattle.model.specs.Cases.{Class, isolated, leaf, regular, branch, case_at, case_of, class_of, closes, closes_ring, opposite, vertex_at}
use Rattle.model.specs.Labels.{Labelling, Marks, close, extend, label_case, label_edge, merge, split_or_tap, split_two}

-- the class of degree 1
unfoldable pub is_leaf_class : Class → Bool
is_leaf_class isolated = false
is_leaf_class leaf = true
is_leaf_class regular = false
is_leaf_class branch = false

is_regular_class : Class → Bool
is_regular_class isolated = false
is_regular_class leaf = false
is_regular_class regular = true
is_regular_class branch = false

-- it is the test "degree is 1"
pub class_leaf : (n : ℕ) → eqb n 1 ≡ is_leaf_class (class_of n)
unfolding is_leaf_class class_of
class_leaf zero = refl
class_leaf (suc zero) = refl
class_leaf (suc (suc zero)) = refl
class_leaf (suc (suc (suc n))) = ne_eqb (suc (suc (suc n))) 1 (λ z. omega arith)

class_regular : (n : ℕ) → eqb n 2 ≡ is_regular_class (class_of n)
unfolding is_regular_class class_of
class_regular zero = refl
class_regular (suc zero) = refl
class_regular (suc (suc zero)) = refl
class_regular (suc (suc (suc n))) = ne_eqb (suc (suc (suc n))) 2 (λ z. omega arith)

-- what the tests "is a leaf" and "is regular" of the two ends make of it
-- what is left of the labels at the ends that were regular
unfoldable pub bared : Bool → Bool → List Edge → Edge → ℕ → Marks → Labelling
bared true true es p blocks m = split_two es blocks p.first p.second m
bared true false es p blocks m = split_or_tap es blocks p.first m
bared false true es p blocks m = split_or_tap es blocks p.second m
bared false false es p blocks m = record { blocks = blocks; marks = m }

-- what is done where no ring is closed, by the four tests
unfoldable pub compact : Bool → Bool → Bool → Bool → List Edge → Edge → ℕ → Marks → Labelling
compact la lb ra rb es p blocks m =
    let l = bared ra rb es p blocks m in
    if la
    then (if lb then merge es blocks p.first p.second m else extend es (es ++ (p ∷ [])) l.blocks p.first l.marks)
    else (if lb then extend es (es ++ (p ∷ [])) l.blocks p.second l.marks else l)

by_class : (c k : Class) (es : List Edge) (p : Edge) (blocks : ℕ) (m : Marks)
    → label_case (case_of c k) es p blocks m ≡ compact (is_leaf_class c) (is_leaf_class k) (is_regular_class c) (is_regular_class k) es p blocks m
unfolding label_case case_of vertex_at opposite compact bared is_leaf_class is_regular_class
by_class isolated isolated es p blocks m = refl
by_class isolated leaf es p blocks m = refl
by_class isolated regular es p blocks m = refl
by_class isolated branch es p blocks m = refl
by_class leaf isolated es p blocks m = refl
by_class leaf leaf es p blocks m = refl
by_class leaf regular es p blocks m = refl
by_class leaf branch es p blocks m = refl
by_class regular isolated es p blocks m = refl
by_class regular leaf es p blocks m = refl
by_class regular regular es p blocks m = refl
by_class regular branch es p blocks m = refl
by_class branch isolated es p blocks m = refl
by_class branch leaf es p blocks m = refl
by_class branch regular es p blocks m = refl
by_class branch branch es p blocks m = refl

-- one more edge closes a ring, or does what the four tests say
pub edge_compact : (es : List Edge) (p : Edge) (blocks : ℕ) (m : Marks)
    → label_edge es p blocks m
    ≡ (if closes_ring es p.first p.second then close es blocks p.first p.second m
    else compact (is_leaf es p.first) (is_leaf es p.second) (is_regular es p.first) (is_regular es p.second) es p blocks m)
unfolding label_edge case_at is_leaf is_regular label_case
edge_compact es p blocks m =
    rw (class_leaf (degree es p.first), class_leaf (degree es p.second), class_regular (degree es p.first), class_regular (degree es p.second))
    (go (closes_ring es p.first p.second))
  where
    go : (b : Bool)
        → label_case (if b then closes else case_of (class_of (degree es p.first)) (class_of (degree es p.second))) es p blocks m
        ≡ (if b then close es blocks p.first p.second m else compact (is_leaf_class (class_of (degree es p.first))) (is_leaf_class (class_of (degree es p.second)))
        (is_regular_class (class_of (degree es p.first))) (is_regular_class (class_of (degree es p.second))) es p blocks m)
    go true = refl
    go false = by_class (class_of (degree es p.first)) (class_of (degree es p.second)) es p blocks m
