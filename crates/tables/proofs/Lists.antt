-- What a comparison tells.
use mathlib.Core.Path.{◌≡◌}
use mathlib.Core.Bool.{Bool, true, false, not}
use Prim.Native.Nat.{ℕ}
use native.Mathlib.Omega.{arith}
use borrow.Author.Tests.{not-true}
use Rattle.tables.specs.Steps.{Tells}

-- what differs is told so
pub differ : {A : Type 0} (a b : A) → (a ≡ b → ⊥) → Tells false a b
differ a b h = (λ p. cc, λ e. absurd (h e))

-- a comparison said no
pub not_same : (P : Type 0) (r : Bool) → not r ≡ true → (P → r ≡ true) → P → ⊥
not_same P r n h p = let z : ◌≡◌ {A = ℕ} 0 1 = cc (h p, not-true r n) in omega arith
