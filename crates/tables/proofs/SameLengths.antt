-- Six tables that keep their lengths.
use mathlib.Core.Path.{◌≡◌, refl, ◌∙◌}
use Prim.Native.Nat.{ℕ}
use mathlib.Core.List.{List}
use lib.ListN.{length}

-- six tables have the lengths of six others
pub record SameLengths (d₀ s₀ e₀ l₀ v₀ t₀ d s e l v t : List ℕ) : Type 0 where
  pub degrees : length d ≡ length d₀
  pub sides : length s ≡ length s₀
  pub ends : length e ≡ length e₀
  pub lengths : length l ≡ length l₀
  pub volumes : length v ≡ length v₀
  pub labels : length t ≡ length t₀

-- tables have their own lengths
pub same_refl : (d s e l v t : List ℕ) → SameLengths d s e l v t d s e l v t
same_refl d s e l v t = record { degrees = refl; sides = refl; ends = refl; lengths = refl; volumes = refl; labels = refl }

-- .. and keep them in one call more
pub same_on : {d₀ s₀ e₀ l₀ v₀ t₀ d s e l v t d' s' e' l' v' t' : List ℕ}
    → (length d' ≡ length d) × ((length s' ≡ length s) × ((length e' ≡ length e) × ((length l' ≡ length l) × ((length v' ≡ length v) × (length t' ≡ length t)))))
    → SameLengths d₀ s₀ e₀ l₀ v₀ t₀ d s e l v t → SameLengths d₀ s₀ e₀ l₀ v₀ t₀ d' s' e' l' v' t'
same_on k same = record {
  degrees = k.0 ∙ same.degrees;
  sides = k.1.0 ∙ same.sides;
  ends = k.1.1.0 ∙ same.ends;
  lengths = k.1.1.1.0 ∙ same.lengths;
  volumes = k.1.1.1.1.0 ∙ same.volumes;
  labels = k.1.1.1.1.1 ∙ same.labels;
}
