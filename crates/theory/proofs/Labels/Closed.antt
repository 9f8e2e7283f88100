-- What an edge that closes a ring does to the labels: x and y are the leaves of one chain, e and c their edges, and each is labelled on
-- from its neighbour; or, if they are neighbours, both begin a block.
use mathlib.Core.Path.{◌≡◌}
use mathlib.Core.Logic.{◌≢◌}
use Prim.Native.Nat.{ℕ, ◌+◌}
use mathlib.Core.Bool.{Bool, true, false}
use mathlib.Core.List.{List, [], ◌∷◌}
use lib.ListN.{length, get_or}
use Rattle.model.specs.Graph.{Edge, Pass, degree, ends_at, far}
use Rattle.model.specs.Labels.{Labelling, Marks, base, mark}
use Rattle.model.proofs.Walks.Turn.{At}
use Rattle.model.proofs.Walks.Trail.{Trail}
use Rattle.model.proofs.Labels.Following.{ith_label, low_of}

-- A path goes on beside a vertex with this low edge, from its edge e: downwards if that is the low edge, else upwards.
abbrev pub Direction : Bool → ℕ → ℕ → Type 0
Direction true low e = low ≢ e
Direction false low e = low ≡ e

-- the two ends on a path over the new edge
abbrev pub close_path : List Edge → (x y e c : ℕ) → List Pass
close_path es x y e c = record { before = e; at = x; after = length es } ∷ record { before = length es; at = y; after = c } ∷ []

-- the labels of the two ends; each goes up or down from its neighbour, and which of its edges is the low one depends on that
pub data EndLabels (es : List Edge) (m : Marks) (blocks x y e c : ℕ) (upx upy : Bool) (tx ty blocks' : ℕ) : Type 0 where
  born : far es e x ≡ y → upx ≡ false → upy ≡ true → tx ≡ base (blocks + 1) → ty ≡ base (blocks + 1) + 1 → blocks' ≡ blocks + 1 → EndLabels es m blocks x y e c upx upy tx ty blocks'
  from_neighbours : degree es (far es e x) ≡ 2 → degree es (far es c y) ≡ 2
      → tx ≡ ith_label upx (get_or m.labels (far es e x) 0) 0 → Direction upx (get_or m.lows (far es e x) 0) e
      → ty ≡ ith_label upy (get_or m.labels (far es c y) 0) 0 → Direction upy (get_or m.lows (far es c y) 0) c
      → blocks' ≡ blocks → EndLabels es m blocks x y e c upx upy tx ty blocks'

-- what is left by an edge that closes a ring: the two leaves, the walk from the one to the other, and what each wears
pub record Closed (es : List Edge) (p : Edge) (blocks : ℕ) (m : Marks) (res : Labelling) (x y e c : ℕ) : Type 0 where
  pub x_end : ends_at x p ≡ 1
  pub y_end : ends_at y p ≡ 1
  pub x_y : x ≢ y
  pub x_leaf : degree es x ≡ 1
  pub y_leaf : degree es y ≡ 1
  pub e_at : At es x e
  pub c_at : At es y c
  pub passes : List Pass
  pub trail : Trail es e (far es e x) passes c y
  pub upx : Bool
  pub upy : Bool
  pub tx : ℕ
  pub ty : ℕ
  pub by : EndLabels es m blocks x y e c upx upy tx ty res.blocks
  pub marks_is : res.marks ≡ mark y ty (low_of upy (record { before = c; at = y; after = length es })) (mark x tx (low_of upx (record { before = e; at = x; after = length es })) m)
