-- The least of some numbers, as a walk keeps it; and that both edges of a regular vertex have one name.
use mathlib.Core.Path.{◌≡◌, refl, sym, ap, ◌∙◌}
use Prim.Native.Nat.{ℕ, min}
use native.Mathlib.Omega.{arith}
use mathlib.Core.Bool.{true}
use mathlib.Core.List.{List, [], ◌∷◌, ◌++◌, Memᴰ as Mem}
use Rattle.model.specs.Basics.{least}
use Rattle.model.specs.Graph.{Edge, chain_of, is_regular, name_of}
use Rattle.model.specs.Register.{Register}
use Rattle.model.specs.Notions.{Reachable}
use Rattle.model.proofs.Walks.Degree.{Proper}
use Rattle.model.proofs.Walks.Turn.{At}
use Rattle.model.proofs.Chains.Partition.{chain_has, chain_name}
use Rattle.model.proofs.Chains.Own.{chain_inner, inner_chain}
use Rattle.agreement.proofs.Registers.{proper}
use Rattle.agreement.proofs.Chaining.{lower}

-- ---- the least of x and the numbers of a list

-- the least of some numbers, with one more and of two lists
pub lower_min : (ys : List ℕ) (x y : ℕ) → lower ys (min y x) ≡ min y (lower ys x)
unfolding lower
lower_min [] x y = refl
lower_min (z ∷ ys) x y = omega (arith, lower_min ys x y)

pub lower_append : (xs ys : List ℕ) (z : ℕ) → lower (xs ++ ys) z ≡ lower xs (lower ys z)
unfolding lower
lower_append [] ys z = refl
lower_append (x ∷ xs) ys z = ap (λ (k : ℕ). min x k) (lower_append xs ys z)

-- in whatever order
pub lower_swap : (xs ys : List ℕ) (z : ℕ) → lower xs (lower ys z) ≡ lower ys (lower xs z)
unfolding lower
lower_swap [] ys z = refl
lower_swap (x ∷ xs) ys z = ap (λ (k : ℕ). min x k) (lower_swap xs ys z) ∙ sym (lower_min ys (lower xs z) x)

-- the least, by either of the two definitions
pub least_lower : (x : ℕ) (ys : List ℕ) → least x ys ≡ lower ys x
unfolding least lower
least_lower x [] = refl
least_lower x (y ∷ ys) =
    let e : min x y ≡ min y x = omega arith in
    least_lower (min x y) ys ∙ ap (lower ys) e ∙ lower_min ys x y

-- the edges of a regular vertex lie on one chain
pub one_name : (r : Register) → Reachable r → (v d c : ℕ) → is_regular r.edges v ≡ true → At r.edges v d → At r.edges v c
    → name_of r.edges d ≡ name_of r.edges c
one_name r g v d c q a b = sym (chain_name es pr c d a.inside (inner_chain es pr d c v a.inside inner b))
  where
    es : List Edge
    es = r.edges

    pr : Proper es
    pr = proper r g

    inner : Mem v (chain_of es d).inner
    inner = chain_inner es pr d d v a.inside (chain_has es d) a q
