-- What the vertices wear after a tap, and that the tables keep their sizes.
use mathlib.Core.Path.{◌≡◌, refl, sym, ◌∙◌}
use mathlib.Core.Logic.{◌≢◌}
use Prim.Native.Nat.{ℕ, suc, ◌+◌, ◌≤◌, ◌<◌}
use native.Mathlib.Omega.{arith}
use native.Mathlib.Decide.{ℕ_discrete}
use mathlib.Core.Bool.{true}
use mathlib.Core.List.{List}
use lib.ListN.{length, get_or, length-set}
use lib.Seq.{get_or-set_same, get_or-set_other}
use Rattle.model.specs.Graph.{Edge, Pass}
use Rattle.model.specs.Labels.{Marks, mark}
use Rattle.model.proofs.Walks.Places.{Ith, ith_below, Off}
use Rattle.model.proofs.Labels.Following.{following, following_long, ith_label, label_at, low_at, Wears, given, kept, wears}
use Rattle.theory.proofs.Labels.Taps.{relaid, before, Taps, no_tap, one_tap, two_taps}
use Rattle.theory.proofs.Labels.WearsAfter.{LongEnough}

-- vertex v is the i-th of the path, or x behind it
pub data Who (x : ℕ) (path : List Pass) (v i : ℕ) : Type 0 where
  at_x : v ≡ x → i ≡ length path → Who x path v i
  at_ith : (s : Pass) → Ith s i path → s.at ≡ v → Who x path v i

-- v wears a new label by its place round, or what it wore
pub data Relaid (t x : ℕ) (path : List Pass) (m after : Marks) (v : ℕ) : Type 0 where
  anew : (i : ℕ) → i ≤ length path → label_at after v ≡ t + suc i → Who x path v i → Relaid t x path m after v
  as_ever : v ≢ x → Off path v → label_at after v ≡ label_at m v → low_at after v ≡ low_at m v → Relaid t x path m after v

-- after a tap every vertex wears a new label by its place round, or what it wore
pub relaid_view : (t x q : ℕ) (path : List Pass) (m : Marks) (v : ℕ) → v < length m.labels → v < length m.lows → Relaid t x path m (relaid t x q path m) v
unfolding relaid mark label_at low_at ith_label
relaid_view t x q path m v a b = go (ℕ_discrete v x)
  where
    lo : v < length (following true t path m).labels
    lo = omega (arith, a, (following_long true t path m).labels_long)

    at_v : Wears true t path m v (get_or (following true t path m).labels v 0) (get_or (following true t path m).lows v 0)
        → v ≢ x → Relaid t x path m (relaid t x q path m) v
    at_v (given i s j e f g) n = anew i (omega (arith, ith_below j)) (get_or-set_other (following true t path m).labels x v (t + suc (length path)) 0 n ∙ f) (at_ith s j e)
    at_v (kept k f g) n = as_ever n k (get_or-set_other (following true t path m).labels x v (t + suc (length path)) 0 n ∙ f) (get_or-set_other (following true t path m).lows x v q 0 n ∙ g)

    go : Dec (v ≡ x) → Relaid t x path m (relaid t x q path m) v
    go (yes e) = anew (length path) (omega arith) (rw (← e) (get_or-set_same (following true t path m).labels v (t + suc (length path)) 0 lo)) (at_x e refl)
    go (no e) = at_v (wears true t path m v a b) e

-- a tap leaves the tables long enough, and so do all taps
pub relaid_long : {es : List Edge} (t x q : ℕ) (path : List Pass) (m : Marks) → LongEnough es m → LongEnough es (relaid t x q path m)
unfolding relaid mark
relaid_long t x q path m lg =
    let f = following_long true t path m in
    record {
      long = λ v e a. omega (arith, lg.long v e a, f.labels_long, length-set (following true t path m).labels x (t + suc (length path)));
      even = length-set (following true t path m).labels x (t + suc (length path)) ∙ f.labels_long ∙ lg.even ∙ sym f.lows_long ∙ sym (length-set (following true t path m).lows x q);
    }

pub taps_long : {es : List Edge} {p : Edge} {blocks blocks₁ k : ℕ} {m m₁ : Marks} → Taps es p blocks m blocks₁ m₁ k → {fs : List Edge} → LongEnough fs m → LongEnough fs m₁
taps_long (no_tap b e k) lg = rw e lg
taps_long {blocks = blocks} {m = m} (one_tap x d q path o r b e k) lg = rw e (relaid_long (before (blocks + 1)) x q path m lg)
taps_long {blocks = blocks} {m = m} (two_taps x d q path y d' q' path' o o' xy f r r' b e k) lg =
    rw e (relaid_long (before (blocks + 1 + 1)) y q' path' (relaid (before (blocks + 1)) x q path m) (relaid_long (before (blocks + 1)) x q path m lg))
