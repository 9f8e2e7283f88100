-- What a regular vertex wears after a landing: new marks if it lies on the path, else what it wore.
use mathlib.Core.Path.{◌≡◌, ◌∙◌}
use mathlib.Core.Logic.{◌≢◌, inr}
use Prim.Native.Nat.{ℕ, ◌<◌}
use native.Mathlib.Omega.{arith}
use mathlib.Core.Bool.{Bool}
use mathlib.Core.List.{List, [], ◌∷◌, ◌++◌}
use lib.ListN.{length, get_or}
use Rattle.model.specs.Graph.{Edge, Pass, degree, ends_at}
use Rattle.model.specs.Labels.{Marks}
use Rattle.model.proofs.Walks.Degree.{degree_snoc, no_end}
use Rattle.model.proofs.Walks.Turn.{At}
use Rattle.model.proofs.Walks.Places.{Ith, InPath, Off}
use Rattle.model.proofs.Labels.Following.{following, ith_label, low_of, Wears, given, kept, wears, label_at, low_at}
use Rattle.theory.proofs.Labels.Splits.{Bare}

-- the marks have a place for each vertex at an edge
pub record LongEnough (es : List Edge) (m : Marks) : Type 0 where
  pub long : (v e : ℕ) → At es v e → v < length m.labels
  pub even : length m.labels ≡ length m.lows

-- v in the list es with the edge p more, the path labelled: m are the marks before, `after` those afterwards, `ith` the labels of the path
pub data WearsAfter (es : List Edge) (p : Edge) (m : Marks) (up : Bool) (ith : ℕ → ℕ) (path : List Pass) (after : Marks) (v : ℕ) : Type 0 where
  in_path : (i : ℕ) (t : Pass) → Ith t i path → t.at ≡ v → label_at after v ≡ ith i → low_at after v ≡ low_of up t → WearsAfter es p m up ith path after v
  as_was : degree es v ≡ 2 → ends_at v p ≡ 0 → Off path v → label_at after v ≡ label_at m v → low_at after v ≡ low_at m v
      → WearsAfter es p m up ith path after v

-- every regular vertex wears a label of the path, or what it wore
pub wears_after : (es : List Edge) (p : Edge) → p.first ≢ p.second → (m m' : Marks) → Bare es p m m' → (up : Bool) (label : ℕ) (path : List Pass) → LongEnough (es ++ (p ∷ [])) m
    → ((v : ℕ) → ends_at v p ≡ 1 → degree (es ++ (p ∷ [])) v ≡ 2 → InPath path v)
    → (v e : ℕ) → degree (es ++ (p ∷ [])) v ≡ 2 → At (es ++ (p ∷ [])) v e → WearsAfter es p m up (ith_label up label) path (following up label path m') v
unfolding label_at low_at
wears_after es p d m m' br up label path lg has v e c a =
    go (wears up label path m' v (omega (arith, lg.long v e a, br.labels_long)) (omega (arith, lg.long v e a, lg.even, br.lows_long)))
  where
    after : Marks
    after = following up label path m'

    go : Wears up label path m' v (get_or after.labels v 0) (get_or after.lows v 0) → WearsAfter es p m up (ith_label up label) path after v
    go (given i t j e f g) = in_path i t j e f g
    go (kept n f g) =
        let z : ends_at v p ≡ 0 = no_end p v d (λ o. let i = has v o c in n i.index i.pass_is i.ith i.at_is) in
        as_was (omega (arith, degree_snoc es p v)) z n (f ∙ br.label_kept v (inr z)) (g ∙ br.low_kept v (inr z))
