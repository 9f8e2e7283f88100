-- What counting a removal leaves of the heads.
use mathlib.Core.Path.{◌≡◌, ap, ◌∙◌}
use Prim.Native.Nat.{ℕ}
use mathlib.Core.List.{List}
use lib.ListN.{get_or, set}
use Rattle.model.specs.Tables.{Counts}
use Rattle.tables.specs.Steps.{more32}

-- the count of removals, raised
pub count_on : (ks ks' : List ℕ) (h k one : ℕ) → k ≡ get_or ks h 0 → one ≡ more32 k → ks' ≡ set ks h one → ks' ≡ set ks h (more32 (get_or ks h 0))
count_on ks ks' h k one a b c = rw (← a, ← b) c

-- a head put among heads that are the same
pub heads_on : (heads heads₁ heads₂ : List Counts) (h : ℕ) (c : Counts) → heads₁ ≡ heads → heads₂ ≡ set heads₁ h c → heads₂ ≡ set heads h c
heads_on heads heads₁ heads₂ h c a b = b ∙ ap (λ (x : List Counts). set x h c) a
