-- What one more edge does to the labels, in one form: a path is labelled upwards or downwards, from a label on.
use mathlib.Core.Path.{◌≡◌, refl}
use mathlib.Core.Logic.{◌≢◌, ◌⊎◌, inl, inr}
use Prim.Native.Nat.{ℕ, ◌+◌, ◌-◌, ◌≤◌}
use native.Mathlib.Omega.{arith}
use native.Mathlib.Decide.{ℕ_discrete}
use mathlib.Core.Bool.{Bool, true, false}
use mathlib.Core.List.{List, [], ◌∷◌, ◌++◌}
use lib.ListN.{length, get_or}
use borrow.Author.Tests.{eq-eqb, ne_eqb}
use Rattle.model.specs.Graph.{Edge, Pass, degree, ends_at, far}
use Rattle.model.specs.Labels.{Labelling, Marks, attach, base, inwards}
use Rattle.model.proofs.Walks.Degree.{degree_snoc, end_cases}
use Rattle.model.proofs.Walks.Turn.{At}
use Rattle.model.proofs.Walks.Trail.{Trail}
use Rattle.model.proofs.Walks.Places.{InPath}
use Rattle.model.proofs.Labels.Following.{following, from_base}
use Rattle.theory.proofs.Labels.Inwards.{Inward}
use Rattle.theory.proofs.Labels.Splits.{Bare}
use Rattle.theory.proofs.Labels.Taps.{Bared}
use Rattle.theory.proofs.Labels.Closed.{Closed, Direction}

-- From which label on a path is labelled, and in which direction, by the neighbour v of its first vertex: a new block, or on from v.
pub data Near (es : List Edge) (p : Edge) (v blocks e : ℕ) (m : Marks) (up : Bool) (label blocks' : ℕ) : Type 0 where
  none_near : degree (es ++ (p ∷ [])) v ≢ 2 → up ≡ true → label ≡ base (blocks + 1) - 1 → blocks' ≡ blocks + 1 → Near es p v blocks e m up label blocks'
  near : degree es v ≡ 2 → ends_at v p ≡ 0 → label ≡ get_or m.labels v 0 → blocks' ≡ blocks → Direction up (get_or m.lows v 0) e → Near es p v blocks e m up label blocks'

-- what `attach` makes of the marks m' after the splits
pub record Attached (es : List Edge) (p : Edge) (v blocks e : ℕ) (path : List Pass) (m m' : Marks) (res : Labelling) : Type 0 where
  pub up : Bool
  pub label : ℕ
  pub marks_is : res.marks ≡ following up label path m'
  pub by : Near es p v blocks e m up label res.blocks

-- `attach` labels its path from the base of a new block on, or on from the neighbour
pub attached : (es : List Edge) (p : Edge) (v blocks e : ℕ) (kept path : List Pass) (m m' : Marks) → Bare es p m m' → (kept ≡ [] → degree (es ++ (p ∷ [])) v ≢ 2)
    → ((u : Pass) (us : List Pass) → kept ≡ u ∷ us → (u.at ≡ v) × (degree es v ≡ 2) × (ends_at v p ≡ 0)) → Attached es p v blocks e path m m' (attach blocks e kept path m')
unfolding attach following
attached es p v blocks e [] path m m' br stop head =
    record { up = true; label = base (blocks + 1) - 1; marks_is = from_base blocks path m'; by = none_near (stop refl) refl refl refl }
attached es p v blocks e (u ∷ us) path m m' br stop head = go (ℕ_discrete (get_or m'.lows u.at 0) e)
  where
    on : (up : Bool) → Direction up (get_or m'.lows u.at 0) e → Near es p v blocks e m up (get_or m'.labels u.at 0) blocks
    on up dir =
        let h = head u us refl in
        near h.1 h.2 (rw h.0 (br.label_kept v (inr h.2))) refl (rw (h.0, br.low_kept v (inr h.2)) at dir)

    go : Dec (get_or m'.lows u.at 0 ≡ e) → Attached es p v blocks e path m m' (attach blocks e (u ∷ us) path m')
    go (yes q) = record { up = false; label = get_or m'.labels u.at 0; marks_is = rw (eq-eqb (get_or m'.lows u.at 0) e q); by = on false q }
    go (no q) = record { up = true; label = get_or m'.labels u.at 0; marks_is = rw (ne_eqb (get_or m'.lows u.at 0) e q); by = on true q }

-- a path is labelled that begins at the leaf x, whose only edge is e; y is the other end of the new edge
pub record Laid (es : List Edge) (p : Edge) (blocks : ℕ) (m : Marks) (res : Labelling) (x y e : ℕ) (path : List Pass) : Type 0 where
  pub x_end : ends_at x p ≡ 1
  pub y_end : ends_at y p ≡ 1
  pub x_y : x ≢ y
  pub x_leaf : degree es x ≡ 1
  pub e_at : At es x e
  pub m' : Marks
  pub bare : Bare es p m m'
  pub up : Bool
  pub label : ℕ
  pub marks_is : res.marks ≡ following up label path m'
  pub onto : ℕ
  pub to : ℕ
  pub trail : Trail (es ++ (p ∷ [])) e x path onto to
  pub stops : degree (es ++ (p ∷ [])) to ≢ 2
  pub by : Near es p (far es e x) blocks e m up label res.blocks
  pub has : (v : ℕ) → ends_at v p ≡ 1 → degree (es ++ (p ∷ [])) v ≡ 2 → InPath path v

-- an extension labels x alone, with its edge e; a merge x, y with its edge c, and the regular vertices of y's chain
abbrev pub extend_path : List Edge → (x e : ℕ) → List Pass
extend_path es x e = record { before = e; at = x; after = length es } ∷ []

-- the path of a merge: the two leaves, and the regular vertices of y's chain
abbrev pub merge_path : List Edge → (x y e c : ℕ) → List Pass
merge_path es x y e c = record { before = e; at = x; after = length es } ∷ record { before = length es; at = y; after = c } ∷ inwards es y

-- The forms of one more edge: no end was a leaf; x was one and y was not; both were, and y's chain has no more regular vertices than x's; or
-- both were those of one chain. In the first two the ends that were regular are bared, and a ring is tapped there, before a path is labelled.
pub data Inserted (es : List Edge) (p : Edge) (blocks : ℕ) (m : Marks) (res : Labelling) : Type 0 where
  fresh : degree es p.first ≢ 1 → degree es p.second ≢ 1 → Bared es p blocks m res → Inserted es p blocks m res
  extends : (x y e : ℕ) → degree es y ≢ 1 → (l : Labelling) (b : Bared es p blocks m l) (la : Laid es p l.blocks b.after res x y e (extend_path es x e)) → la.m' ≡ l.marks
      → Inserted es p blocks m res
  merges : (x y e c : ℕ) → degree es y ≡ 1 → At es y c → length (inwards es y) ≤ length (inwards es x)
      → (la : Laid es p blocks m res x y e (merge_path es x y e c)) → la.m' ≡ m
      → ((i : Inward es x e (inwards es x)) → degree (es ++ (p ∷ [])) i.to ≢ 2) → ((i : Inward es y c (inwards es y)) → degree (es ++ (p ∷ [])) i.to ≢ 2)
      → Inserted es p blocks m res
  closes : (x y e c : ℕ) → Closed es p blocks m res x y e c → Inserted es p blocks m res

-- where neither end was a leaf, neither is regular afterwards
pub fresh_none : (es : List Edge) (p : Edge) → degree es p.first ≢ 1 → degree es p.second ≢ 1 → (v : ℕ) → ends_at v p ≡ 1 → degree (es ++ (p ∷ [])) v ≢ 2
fresh_none es p ca cb v o c = go (end_cases p v o)
  where
    one : degree es v ≡ 1
    one = omega (arith, degree_snoc es p v)

    go : (p.first ≡ v) ⊎ (p.second ≡ v) → ⊥
    go (inl q) = ca (rw q one)
    go (inr q) = cb (rw q one)
