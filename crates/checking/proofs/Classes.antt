-- Classes and cases.
use mathlib.Core.Path.{◌≡◌, refl}
use Prim.Native.Nat.{ℕ, zero, suc}
use Rattle.model.specs.Cases.{Class, isolated, leaf, regular, branch, class_of, case_of}

-- a vertex of a degree other than 0, 1 and 2 is a branch
pub class_branch : (n : ℕ) → (n ≡ 0 → ⊥) → (n ≡ 1 → ⊥) → (n ≡ 2 → ⊥) → branch ≡ class_of n
unfolding class_of
class_branch zero a b c = absurd (a refl)
class_branch (suc zero) a b c = absurd (b refl)
class_branch (suc (suc zero)) a b c = absurd (c refl)
class_branch (suc (suc (suc n))) a b c = refl

-- a branch makes the cases that an isolated vertex makes
pub case_branch : (second : Class) → case_of isolated second ≡ case_of branch second
unfolding case_of
case_branch isolated = refl
case_branch leaf = refl
case_branch regular = refl
case_branch branch = refl

-- .. and so does every degree but 1 and 2
pub case_singular : (n : ℕ) (second : Class) → (n ≡ 1 → ⊥) → (n ≡ 2 → ⊥) → case_of isolated second ≡ case_of (class_of n) second
unfolding class_of
case_singular zero second a b = refl
case_singular (suc zero) second a b = absurd (a refl)
case_singular (suc (suc zero)) second a b = absurd (b refl)
case_singular (suc (suc (suc n))) second a b = case_branch second
