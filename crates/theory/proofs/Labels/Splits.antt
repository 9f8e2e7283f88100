-- What the splits of one more edge leave of the labels.
use mathlib.Core.Path.{◌≡◌, refl, ◌∙◌}
use mathlib.Core.Logic.{◌≢◌, ◌⊎◌}
use Prim.Native.Nat.{ℕ, ◌<◌}
use native.Mathlib.Omega.{arith}
use native.Mathlib.Decide.{ℕ_discrete, dec_lt}
use mathlib.Core.List.{List}
use lib.ListN.{length, get_or, set, length-set, get_or-eq_default}
use lib.Seq.{get_or-set_same, get_or-set_other}
use Rattle.model.specs.Graph.{Edge, degree, ends_at}
use Rattle.model.specs.Labels.{Marks}

-- the marks after the splits: a regular vertex that the edge meets is bare, all else is as it was
pub record Bare (es : List Edge) (p : Edge) (m m' : Marks) : Type 0 where
  pub label_off : (v : ℕ) → ends_at v p ≡ 1 → degree es v ≡ 2 → get_or m'.labels v 0 ≡ 0
  pub label_kept : (v : ℕ) → degree es v ≢ 2 ⊎ (ends_at v p ≡ 0) → get_or m'.labels v 0 ≡ get_or m.labels v 0
  pub low_kept : (v : ℕ) → degree es v ≢ 2 ⊎ (ends_at v p ≡ 0) → get_or m'.lows v 0 ≡ get_or m.lows v 0
  pub labels_long : length m'.labels ≡ length m.labels
  pub lows_long : length m'.lows ≡ length m.lows

-- where 0 is set, 0 is read
pub set_off : (xs : List ℕ) (v : ℕ) → get_or (set xs v 0) v 0 ≡ 0
set_off xs v = go (dec_lt v (length xs))
  where
    go : Dec (v < length xs) → get_or (set xs v 0) v 0 ≡ 0
    go (yes l) = get_or-set_same xs v 0 0 l
    go (no l) = get_or-eq_default (set xs v 0) 0 (omega (arith, length-set xs v 0))

-- where 0 was read, it is read after 0 is set anywhere
pub set_zero : (xs : List ℕ) (w v : ℕ) → get_or xs v 0 ≡ 0 → get_or (set xs w 0) v 0 ≡ 0
set_zero xs w v z = go (ℕ_discrete v w)
  where
    go : Dec (v ≡ w) → get_or (set xs w 0) v 0 ≡ 0
    go (no e) = get_or-set_other xs w v 0 0 e ∙ z
    go (yes e) = rw e (set_off xs w)

-- where both ends are leaves, nothing is split
pub no_splits : (es : List Edge) (p : Edge) (m : Marks) → ((v : ℕ) → ends_at v p ≡ 1 → degree es v ≡ 1) → Bare es p m m
no_splits es p m f = record {
  label_off = λ v o c. absurd (omega (arith, f v o));
  label_kept = λ v o. refl;
  low_kept = λ v o. refl;
  labels_long = refl;
  lows_long = refl;
}
