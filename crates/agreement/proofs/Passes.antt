-- The passes of a path: each vertex is regular and between two edges.
use mathlib.Core.Path.{◌≡◌, ◌∙◌}
use Prim.Native.Nat.{ℕ, zero, suc}
use mathlib.Core.List.{List, [], ◌∷◌, ◌++◌}
use Rattle.model.specs.Graph.{Edge, Pass, degree, ends_at}
use Rattle.model.proofs.Walks.Degree.{Proper, is_two}
use Rattle.model.proofs.Walks.Turn.{At, Between}
use Rattle.model.proofs.Walks.Trail.{Trail, done, pass, Next, next_edge}
use Rattle.model.proofs.Walks.Snoc.{regular_old, turn_old}
use Rattle.model.proofs.Walks.NewEdge.{at_new}
use Rattle.model.proofs.Walks.Places.{Ith, here, later, no_ith}

-- every vertex of the path lies between the two edges of its pass
abbrev pub AllBetween : List Edge → List Pass → Type 0
AllBetween es [] = Unit {0}
AllBetween es (s ∷ ss) = Between es s.at s.before s.after × AllBetween es ss

-- every vertex of a trail lies between the two edges of its pass
pub trail_between : {es : List Edge} {d v c w : ℕ} {ss : List Pass} → Proper es → At es v d → Trail es d v ss c w → AllBetween es ss
trail_between pr a done = tt
trail_between {es} {d} {v} pr a (pass t r e u) =
    let x : Next es d v t = next_edge es d v t pr a r e in
    (record { regular = r; before_at = a; after_at = x.at; forth = e; back = x.again }, trail_between pr x.across.at u)

-- the i-th vertex of such a path does
pub between_ith : {es : List Edge} (ss : List Pass) → AllBetween es ss → (i : ℕ) (s : Pass) → Ith s i ss → Between es s.at s.before s.after
between_ith [] b i s j = absurd (no_ith j)
between_ith (t ∷ ss) b zero s here = b.0
between_ith (t ∷ ss) b (suc i) s (later j) = between_ith ss b.1 i s j

-- .. in the longer list too, where the new edge meets no regular vertex
module _ (es : List Edge) (n : Edge) (pr : Proper es) (apart : (v : ℕ) → degree es v ≡ 2 → ends_at v n ≡ 0) where
  between_old : (v c d : ℕ) → Between es v c d → Between (es ++ (n ∷ [])) v c d
  between_old v c d b =
      let z = apart v (is_two es v b.regular) in
      record {
        regular = regular_old es n v z ∙ b.regular;
        before_at = at_new es n b.before_at;
        after_at = at_new es n b.after_at;
        forth = turn_old es n v c pr z ∙ b.forth;
        back = turn_old es n v d pr z ∙ b.back;
      }

  -- a path of the old list is one of the longer list
  pub all_old : (ss : List Pass) → AllBetween es ss → AllBetween (es ++ (n ∷ [])) ss
  all_old [] b = tt
  all_old (s ∷ ss) b = (between_old s.at s.before s.after b.0, all_old ss b.1)
