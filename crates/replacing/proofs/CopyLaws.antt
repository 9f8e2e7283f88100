-- Six tables copied over six others.
use mathlib.Core.Path.{◌≡◌, ap}
use mathlib.Core.List.{List}
use Prim.Native.Nat.{ℕ}
use lib.ListN.{length, get_or}
use Rattle.model.specs.Tables.{sizes}
use Rattle.tables.specs.Meaning.{tables}

-- the six, where the sizes are the same
pub tables_copied : (d s e l v b d₀ s₀ e₀ l₀ v₀ b₀ d' s' e' l' v' b' : List ℕ)
    → (length d ≡ length d₀ → d' ≡ d) → (length s ≡ length s₀ → s' ≡ s) → (length e ≡ length e₀ → e' ≡ e)
    → (length l ≡ length l₀ → l' ≡ l) → (length v ≡ length v₀ → v' ≡ v) → (length b ≡ length b₀ → b' ≡ b)
    → sizes (tables d s e l v b) ≡ sizes (tables d₀ s₀ e₀ l₀ v₀ b₀) → tables d' s' e' l' v' b' ≡ tables d s e l v b
unfolding sizes
tables_copied d s e l v b d₀ s₀ e₀ l₀ v₀ b₀ d' s' e' l' v' b' f g h i j k q =
    let at : (n : ℕ) → get_or (sizes (tables d s e l v b)) n 0 ≡ get_or (sizes (tables d₀ s₀ e₀ l₀ v₀ b₀)) n 0 = λ n. ap (λ (xs : List ℕ). get_or xs n 0) q in
    rw (f (at 0), g (at 1), h (at 2), i (at 3), j (at 4), k (at 5))
