-- `Sided`: an edge between two regular vertices is the low edge of one of them, the one whose label is greater, by 1; but for the last edge
-- of a ring, which leads from its highest label to its lowest. What holds along a path that is labelled.
use mathlib.Core.Path.{◌≡◌, refl, sym, ap, ◌∙◌, subst}
use mathlib.Core.Logic.{◌≢◌, ◌⊎◌, inl, inr}
use Prim.Native.Nat.{ℕ, suc, ◌≤◌, ◌<◌}
use native.Mathlib.Omega.{arith}
use native.Mathlib.Decide.{ℕ_discrete}
use mathlib.Core.Bool.{Bool, true, false}
use mathlib.Core.List.{List, [], ◌∷◌, Memᴰ as Mem}
use lib.ListN.{length, get_or}
use lib.Seq.{get_or-set_other}
use Rattle.model.specs.Graph.{Edge, Pass, chain_of, degree, far, edge_on_ring}
use Rattle.model.specs.Labels.{Marks, mark}
use Rattle.model.proofs.Walks.Degree.{Proper}
use Rattle.model.proofs.Walks.Turn.{At}
use Rattle.model.proofs.Walks.Trail.{Trail}
use Rattle.model.proofs.Walks.Places.{InPath, Ith, Off, Once, here, ith_one, later, no_ith, off_cons}
use Rattle.model.proofs.Walks.Once.{Nearby, Pair, ahead, at_end, at_start, behind, itself, nearby, pair}
use Rattle.model.proofs.Labels.Following.{Wears, following, given, ith_label, kept, label_at, low_at, low_of, wears}

-- the labels rise along an edge
pub data Rise (m : Marks) (v w e : ℕ) : Type 0 where
  up_to : low_at m v ≢ e → low_at m w ≡ e → label_at m w ≡ suc (label_at m v) → Rise m v w e
  down_to : low_at m v ≡ e → low_at m w ≢ e → label_at m v ≡ suc (label_at m w) → Rise m v w e

-- an edge is the low edge of one of its ends, whatever the labels
pub data OneLow (m : Marks) (v w e : ℕ) : Type 0 where
  second_low : low_at m v ≢ e → low_at m w ≡ e → OneLow m v w e
  first_low : low_at m v ≡ e → low_at m w ≢ e → OneLow m v w e

-- the last edge of a ring
pub record IsSeam (es : List Edge) (e : ℕ) : Type 0 where
  pub on_ring : edge_on_ring es e ≡ true
  pub is_last : (j : ℕ) → Mem j (chain_of es e).edges → j ≤ e

-- between two neighbours the labels rise, or the edge is the last of a ring
pub data Step (es : List Edge) (m : Marks) (v w e : ℕ) : Type 0 where
  rises : Rise m v w e → Step es m v w e
  seam : IsSeam es e → OneLow m v w e → Step es m v w e

-- v and w are regular, and edge e joins them
pub record Pairs (es : List Edge) (v w e : ℕ) : Type 0 where
  pub first_two : degree es v ≡ 2
  pub second_two : degree es w ≡ 2
  pub first_at : At es v e
  pub second_at : At es w e
  pub differ : v ≢ w

-- the invariant of the sides
pub record Sided (es : List Edge) (m : Marks) : Type 0 where
  pub low_at_lem : (v : ℕ) → degree es v ≡ 2 → At es v (low_at m v)
  pub steps : (v w e : ℕ) → Pairs es v w e → Step es m v w e

-- neighbours, and what is said of them, in either order
pub pairs_back : {es : List Edge} {v w e : ℕ} → Pairs es v w e → Pairs es w v e
pairs_back p =
    record { first_two = p.second_two; second_two = p.first_two; first_at = p.second_at; second_at = p.first_at; differ = λ q. p.differ (sym q) }

pub rise_back : (m : Marks) (v w e : ℕ) → Rise m v w e → Rise m w v e
rise_back m v w e (up_to a b t) = down_to b a t
rise_back m v w e (down_to a b t) = up_to b a t

low_back : (m : Marks) (v w e : ℕ) → OneLow m v w e → OneLow m w v e
low_back m v w e (second_low a b) = first_low b a
low_back m v w e (first_low a b) = second_low b a

pub step_back : {es : List Edge} {m : Marks} {v w e : ℕ} → Step es m v w e → Step es m w v e
step_back {m = m} {v} {w} {e} (rises r) = rises (rise_back m v w e r)
step_back {m = m} {v} {w} {e} (seam s l) = seam s (low_back m v w e l)

-- where the labels rise and at the last edge of a ring alike, the edge is the low edge of one of the two
pub step_low : {es : List Edge} {m : Marks} {v w e : ℕ} → Step es m v w e → OneLow m v w e
step_low (rises (up_to a b t)) = second_low a b
step_low (rises (down_to a b t)) = first_low a b
step_low (seam s l) = l

-- marks that agree at two vertices
pub record Agrees (m n : Marks) (v : ℕ) : Type 0 where
  pub label_same : label_at n v ≡ label_at m v
  pub low_same : low_at n v ≡ low_at m v

-- what is said of two neighbours holds of marks that agree at both
pub rise_as : {m n : Marks} {v w e : ℕ} → Agrees m n v → Agrees m n w → Rise m v w e → Rise n v w e
rise_as a b (up_to x y t) = up_to (λ q. x (sym a.low_same ∙ q)) (b.low_same ∙ y) (omega (arith, a.label_same, b.label_same, t))
rise_as a b (down_to x y t) = down_to (a.low_same ∙ x) (λ q. y (sym b.low_same ∙ q)) (omega (arith, a.label_same, b.label_same, t))

pub low_as : {m n : Marks} {v w e : ℕ} → Agrees m n v → Agrees m n w → OneLow m v w e → OneLow n v w e
low_as a b (second_low x y) = second_low (λ q. x (sym a.low_same ∙ q)) (b.low_same ∙ y)
low_as a b (first_low x y) = first_low (a.low_same ∙ x) (λ q. y (sym b.low_same ∙ q))

pub step_as : {es : List Edge} {m n : Marks} {v w e : ℕ} → Agrees m n v → Agrees m n w → Step es m v w e → Step es n v w e
step_as a b (rises r) = rises (rise_as a b r)
step_as a b (seam s l) = seam s (low_as a b l)

-- a mark elsewhere
pub mark_agrees : (w label low : ℕ) (m : Marks) (v : ℕ) → v ≢ w → Agrees m (mark w label low m) v
unfolding mark label_at low_at
mark_agrees w label low m v n = record { label_same = get_or-set_other m.labels w v label 0 n; low_same = get_or-set_other m.lows w v low 0 n }

-- marks agree that agree with the same in between
pub agrees_then : {m k l : Marks} {v : ℕ} → Agrees m k v → Agrees k l v → Agrees m l v
agrees_then a b = record { label_same = b.label_same ∙ a.label_same; low_same = b.low_same ∙ a.low_same }

-- ---- on a path or off it

-- a vertex is on a path or off it
pub path_or : (path : List Pass) (v : ℕ) → InPath path v ⊎ Off path v
path_or [] v = inr (λ i s j. absurd (no_ith j))
path_or (s ∷ ss) v = go (ℕ_discrete v s.at) (path_or ss v)
  where
    go : Dec (v ≡ s.at) → InPath ss v ⊎ Off ss v → InPath (s ∷ ss) v ⊎ Off (s ∷ ss) v
    go (yes q) r = inl (record { index = 0; pass_is = s; ith = here; at_is = sym q })
    go (no n) (inl i) = inl (record { index = suc i.index; pass_is = i.pass_is; ith = later i.ith; at_is = i.at_is })
    go (no n) (inr o) = inr (off_cons s ss v o n)

-- ---- along a path

next_in_path : (m : Marks) (up : Bool) (label i v w e : ℕ) (s t : Pass) → label_at m v ≡ ith_label up label i → low_at m v ≡ low_of up s → label_at m w ≡ ith_label up label (suc i) → low_at m w ≡ low_of up t
    → (up ≡ false → 1 ≤ label_at m w) → s.before ≢ s.after → t.before ≢ t.after → s.after ≡ e → t.before ≡ e → Rise m v w e
unfolding ith_label low_of
next_in_path m true label i v w e s t tv lv tw lw pos ds dt se te = up_to (λ q. ds (sym lv ∙ q ∙ sym se)) (lw ∙ te) (omega (arith, tv, tw))
next_in_path m false label i v w e s t tv lv tw lw pos ds dt se te = down_to (lv ∙ se) (λ q. dt (te ∙ sym q ∙ lw)) (omega (arith, tv, tw, pos refl))

-- what a vertex of the path shares an edge with: the labels rise there, or it is the first or the last of the path
pub data Beside (m : Marks) (path : List Pass) (v w e : ℕ) (start : Pass → Type 0) (stop : Type 0) : Type 0 where
  risen : Rise m v w e → Beside m path v w e start stop
  from_start : (s : Pass) → Ith s 0 path → s.at ≡ v → s.before ≡ e → start s → Beside m path v w e start stop
  from_stop : stop → Beside m path v w e start stop

module _ (es : List Edge) (pr : Proper es) {e₀ x q z : ℕ} {path : List Pass} (a₀ : At es x e₀) (u : Trail es e₀ x path q z) (once : Once path)
    (up : Bool) (label : ℕ) (m : Marks) (long-labels : (v e : ℕ) → At es v e → v < length m.labels) (long-lows : (v e : ℕ) → At es v e → v < length m.lows) where
  abbrev after : Marks
  after = following up label path m

  -- v wears the label and the low edge of the i-th place
  pub record Exact (i : ℕ) (t : Pass) (v : ℕ) : Type 0 where
    pub label_is : label_at (following up label path m) v ≡ ith_label up label i
    pub low_is : low_at (following up label path m) v ≡ low_of up t

  pair_of : (i : ℕ) (t : Pass) → Ith t i path → Pair es e₀ path t
  pair_of i t j = pair es pr a₀ u i t j

  -- the i-th wears the i-th label
  pub exact : (i : ℕ) (t : Pass) (v : ℕ) → Ith t i path → t.at ≡ v → Exact i t v
  unfolding label_at low_at
  exact i t v j tv = go (wears up label path m v (long-labels v _ at_v) (long-lows v _ at_v))
    where
      at_v : At es v t.before
      at_v = subst (λ (y : ℕ). At es y t.before) tv (pair_of i t j).before_at

      go : Wears up label path m v (get_or after.labels v 0) (get_or after.lows v 0) → Exact i t v
      go (given k o n r f g) =
          let i_is : k ≡ i = once k i o t n j (r ∙ sym tv) in
          let t_is : o ≡ t = ith_one n (subst (λ (y : ℕ). Ith t y path) (sym i_is) j) in
          record { label_is = f ∙ ap (λ (y : ℕ). ith_label up label y) i_is; low_is = g ∙ ap (λ (y : Pass). low_of up y) t_is }
      go (kept n f g) = absurd (n i t j tv)

  -- a vertex off the path wears what it wore
  pub off_path : (v e : ℕ) → At es v e → Off path v → Agrees m (following up label path m) v
  unfolding label_at low_at
  off_path v e a o = go (wears up label path m v (long-labels v e a) (long-lows v e a))
    where
      go : Wears up label path m v (get_or after.labels v 0) (get_or after.lows v 0) → Agrees m after v
      go (given k t n r f g) = absurd (o k t n r)
      go (kept n f g) = record { label_same = f; low_same = g }

  adjacent : (i v w e : ℕ) (s t : Pass) → Ith s i path → Ith t (suc i) path → s.at ≡ v → t.at ≡ w → (up ≡ false → 1 ≤ label_at after w) → s.after ≡ e → t.before ≡ e → Rise after v w e
  adjacent i v w e s t j k sv tw pos se te =
      let a = exact i s v j sv in
      let b = exact (suc i) t w k tw in
      next_in_path after up label i v w e s t a.label_is a.low_is b.label_is b.low_is pos (pair_of i s j).differ (pair_of (suc i) t k).differ se te

  -- a vertex of the path and a neighbour of it: the labels rise, or one is the first or the last of the path
  pub beside : (i v w e : ℕ) (s : Pass) → Ith s i path → s.at ≡ v → At es v e → At es w e → v ≢ w
      → (up ≡ false → 1 ≤ label_at (following up label path m) v) → (up ≡ false → 1 ≤ label_at (following up label path m) w)
      → Beside (following up label path m) path v w e (λ t. (w ≡ far es e₀ x) × (e ≡ e₀)) (w ≡ z)
  beside i v w e s j sv av aw n pv pw = go (nearby es pr a₀ u i s j e w (subst (λ (y : ℕ). At es y e) (sym sv) av) aw)
    where
      go : Nearby path e₀ (far es e₀ x) z i e w s → Beside after path v w e (λ t. (w ≡ far es e₀ x) × (e ≡ e₀)) (w ≡ z)
      go (itself y) = absurd (n (sym sv ∙ sym y))
      go (ahead t l y r r') = risen (adjacent i v w e s t j l sv y pw r' r)
      go (behind k t h l y r r') = risen (rise_back after w v e (adjacent k w v e t s l (subst (λ (y : ℕ). Ith s y path) h j) y sv pv r r'))
      go (at_start h y r r') = from_start s (subst (λ (y : ℕ). Ith s y path) h j) sv r' (y, r)
      go (at_end y) = from_stop y
