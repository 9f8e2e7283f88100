-- Which table function an insertion is, by two tests of each end: is it a leaf, is it regular.
use Rattle.std.specs.Prelude.{if◌then◌else◌, Some, None}
use mathlib.Core.Path.{◌≡◌, refl}
use Prim.Native.Nat.{ℕ, zero, suc}
use native.Mathlib.Omega.{arith}
use mathlib.Core.Bool.{Bool, true, false}
use mathlib.Core.List.{List}
use lib.Dec.{eqb}
use borrow.Author.Tests.{ne_eqb}
use Rattle.model.specs.Cases.{Class, branch, case_of, class_of, isolated, leaf, regular}
use Rattle.counters.specs.Numbers.{vertex_of}
use Rattle.parting.specs.declared.splitting.Splits.TheVariants.{Both, Neither, One}
use Rattle.placement.specs.Placing.{Placed, merged_in, open_in, place_in}
use Rattle.theory.proofs.Labels.Cases.{class_leaf, is_leaf_class}

unfoldable is_regular_class : Class → Bool
is_regular_class isolated = false
is_regular_class leaf = false
is_regular_class regular = true
is_regular_class branch = false

class_regular : (n : ℕ) → eqb n 2 ≡ is_regular_class (class_of n)
unfolding is_regular_class class_of
class_regular zero = refl
class_regular (suc zero) = refl
class_regular (suc (suc zero)) = refl
class_regular (suc (suc (suc n))) = ne_eqb (suc (suc (suc n))) 2 (λ z. omega arith)

module _ (degrees sides ends labels : List ℕ) (blocks a b e : ℕ) (rings : Bool) where
  -- what is done for an edge, by the four tests
  abbrev pub by_ends : Bool → Bool → Bool → Bool → Placed
  by_ends la lb ra rb =
      if la
      then (if lb then merged_in degrees sides ends labels blocks a b e
      else if rb then open_in (One (vertex_of b) (vertex_of a)) (Some (vertex_of a)) degrees sides ends labels blocks a b e rings
      else open_in Neither (Some (vertex_of a)) degrees sides ends labels blocks a b e rings)
      else (if lb then (if ra then open_in (One (vertex_of a) (vertex_of b)) (Some (vertex_of b)) degrees sides ends labels blocks a b e rings else open_in Neither (Some (vertex_of b)) degrees sides ends labels blocks a b e rings)
      else if ra then (if rb then open_in Both None degrees sides ends labels blocks a b e rings else open_in (One (vertex_of a) (vertex_of b)) None degrees sides ends labels blocks a b e rings)
      else if rb then open_in (One (vertex_of b) (vertex_of a)) None degrees sides ends labels blocks a b e rings
      else open_in Neither None degrees sides ends labels blocks a b e rings)

  place_class : (c k : Class) → place_in (case_of c k) degrees sides ends labels blocks a b e rings ≡ by_ends (is_leaf_class c) (is_leaf_class k) (is_regular_class c) (is_regular_class k)
  unfolding case_of is_leaf_class is_regular_class
  place_class isolated isolated = refl
  place_class isolated leaf = refl
  place_class isolated regular = refl
  place_class isolated branch = refl
  place_class leaf isolated = refl
  place_class leaf leaf = refl
  place_class leaf regular = refl
  place_class leaf branch = refl
  place_class regular isolated = refl
  place_class regular leaf = refl
  place_class regular regular = refl
  place_class regular branch = refl
  place_class branch isolated = refl
  place_class branch leaf = refl
  place_class branch regular = refl
  place_class branch branch = refl

  -- an insertion does what the four tests say
  pub place_ends : (p q : ℕ) → place_in (case_of (class_of p) (class_of q)) degrees sides ends labels blocks a b e rings ≡ by_ends (eqb p 1) (eqb q 1) (eqb p 2) (eqb q 2)
  place_ends p q = rw (class_leaf p, class_leaf q, class_regular p, class_regular q) (place_class (class_of p) (class_of q))
