-- Every landing leaves each vertex the room that it needs: room doubles where it is relabelled, and stays where it is not.
use mathlib.Core.Path.{◌≡◌, refl, sym, ap, ◌∙◌, subst}
use mathlib.Core.Logic.{◌≢◌, ◌⊎◌, inl, inr}
use Prim.Native.Nat.{ℕ, suc, ◌+◌, ◌*◌, ◌^◌, ◌<◌}
use native.Mathlib.Omega.{arith}
use native.Mathlib.Decide.{ℕ_discrete, dec_lt}
use mathlib.Core.List.{List, [], ◌∷◌, ◌++◌}
use lib.ListN.{length, get_or, get_or-eq_default, set}
use lib.Seq.{get_or-set_other}
use Rattle.model.specs.Graph.{Edge, Pass, degree, ends_at}
use Rattle.model.specs.Labels.{Labelling, Marks, inwards, mark}
use Rattle.model.proofs.Walks.Degree.{Proper, ends_at_le, zero_or_one}
use Rattle.model.proofs.Walks.Turn.{At, some_edge}
use Rattle.model.proofs.Walks.Places.{Ith, no_ith, ith_split}
use Rattle.model.proofs.Walks.Tours.{Tour}
use Rattle.model.proofs.Labels.Following.{following, label_at, Wears, given, kept, wears}
use Rattle.theory.proofs.Labels.Relabellings.{moved, moved_le, moved_new, moved_old, moved_same}
use Rattle.theory.proofs.Labels.Laid.{extend_path, merge_path, Laid, Inserted, fresh, extends, merges, closes}
use Rattle.theory.proofs.Labels.Closed.{Closed}
use Rattle.theory.proofs.Labels.Singular.{BareSingular}
use Rattle.theory.proofs.Labels.Taps.{relaid, Taps, no_tap, one_tap, two_taps, Bared}
use Rattle.theory.proofs.Labels.Except.{following_off}
use Rattle.theory.proofs.Labels.WearsAfter.{LongEnough}
use Rattle.theory.proofs.Labels.Relaid.{Relaid, anew, as_ever, at_x, at_ith, relaid_view, relaid_long}
use Rattle.theory.proofs.Repeats.Room.{Room, room_still}
use Rattle.theory.proofs.Repeats.Tapped.{room_tapped}
use Rattle.theory.proofs.Repeats.Merged.{room_merged}

-- a vertex at a place of a path is the first of it, or stands behind
first_or : {s u : Pass} {i : ℕ} {ss : List Pass} {x w : ℕ} {A : Type 0} → u.at ≡ x → s.at ≡ w → Ith s i (u ∷ ss) → (w ≡ x → A) → ((j : ℕ) → Ith s j ss → A) → A
first_or {s} {u} {i} {ss} {x} {w} {A} ux sw j f g = go (ith_split j)
  where
    go : (s ≡ u) ⊎ ((n : ℕ) × Ith s n ss) → A
    go (inl h) = f (sym sw ∙ ap (λ (b : Pass). b.at) h ∙ ux)
    go (inr h) = g h.0 h.1

-- v was relabelled t times before the edge
module _ (es : List Edge) (p : Edge) (pr : Proper es) (ne : p.first ≢ p.second) (m : Marks) (bare : BareSingular es m) (lg : LongEnough es m) (v t : ℕ) (o : Room es v (2 ^ suc t)) where
  abbrev new : List Edge
  new = es ++ (p ∷ [])

  abbrev label : ℕ
  label = get_or m.labels v 0

  -- what is to be shown of a label u that v wears afterwards
  abbrev Fits : ℕ → Type 0
  Fits u = Room new v (2 ^ suc (t + moved label u))

  as_it_was : (u : ℕ) → moved label u ≡ 0 → Fits u
  as_it_was u q = subst (λ (n : ℕ). Room new v (2 ^ suc n)) (let z : t ≡ t + moved label u = omega (arith, q) in z) (room_still es p pr ne v o)

  same_label : (u : ℕ) → u ≡ label → Fits u
  same_label u q = as_it_was u (rw q (moved_same label))

  no_label : (u : ℕ) → label ≡ 0 → Fits u
  no_label u q = as_it_was u (moved_old label u q)

  leaf_fits : (x u : ℕ) → degree es x ≡ 1 → v ≡ x → Fits u
  leaf_fits x u c q = no_label u (bare v (λ h. let k : degree es x ≡ 2 = rw q at h in omega (arith, c)))

  -- where the room doubles, v may be relabelled or not
  once_more : (u : ℕ) → Room new v (2 * 2 ^ suc t) → Fits u
  once_more u d = go (zero_or_one (moved label u) (moved_le label u))
    where
      go : (moved label u ≡ 0) ⊎ (moved label u ≡ 1) → Fits u
      go (inl q) = as_it_was u q
      go (inr q) =
          let w : 2 * 2 ^ suc t ≡ 2 ^ suc (suc t) = omega arith in
          let z : suc (suc t) ≡ suc (t + moved label u) = omega (arith, q) in
          subst (λ (n : ℕ). Room new v n) (w ∙ ap (λ (n : ℕ). 2 ^ n) z) d

  -- ---- splits and taps

  -- v is regular and no end of the edge
  module _ (e₀ : ℕ) (a₀ : At es v e₀) (z : ends_at v p ≡ 0) where
    tap_fits : (x d q : ℕ) (path : List Pass) → ends_at x p ≡ 1 → Tour es x d q path → (n : Marks) (s : ℕ) → LongEnough es n
        → Fits (get_or n.labels v 0) → Fits (get_or (relaid s x q path n).labels v 0)
    unfolding label_at
    tap_fits x d q path ox r n s l f = go (relaid_view s x q path n v (l.long v e₀ a₀) (omega (arith, l.long v e₀ a₀, l.even)))
      where
        go : Relaid s x path n (relaid s x q path n) v → Fits (get_or (relaid s x q path n).labels v 0)
        go (anew i b g (at_x e h)) = absurd (let y : ends_at v p ≡ 1 = rw e ox in omega arith)
        go (anew i b g (at_ith w j e)) = once_more _ (room_tapped es p pr ne r ox (record { index = i; pass_is = w; ith = j; at_is = e }) z o)
        go (as_ever k h g b) = rw g f

    taps_fit : {blocks blocks₁ k : ℕ} {m₁ : Marks} → Taps es p blocks m blocks₁ m₁ k → Fits (get_or m₁.labels v 0)
    taps_fit (no_tap b e k) = rw e (same_label label refl)
    taps_fit (one_tap x d q path ox r b e k) = rw e (tap_fits x d q path ox r m _ lg (same_label label refl))
    taps_fit (two_taps x d q path y d' q' path' ox oy xy off r r' b e k) =
        rw e (tap_fits y d' q' path' oy r' _ _ (relaid_long _ x q path m lg) (tap_fits x d q path ox r m _ lg (same_label label refl)))

  bared_fits : {blocks : ℕ} {l : Labelling} → Bared es p blocks m l → Fits (get_or l.marks.labels v 0)
  bared_fits {l = l} b = go (ℕ_discrete (degree es v) 2) (zero_or_one (ends_at v p) (ends_at_le v p ne))
    where
      go : Dec (degree es v ≡ 2) → (ends_at v p ≡ 0) ⊎ (ends_at v p ≡ 1) → Fits (get_or l.marks.labels v 0)
      go (no c) z = no_label _ (bare v c)
      go (yes c) (inr z) = as_it_was _ (rw (b.bare.label_off v z c) (moved_new label))
      go (yes c) (inl z) = let s = some_edge es v pr c in rw (b.bare.label_kept v (inr z)) (taps_fit s.0 s.1 z b.taps)

  -- ---- extensions and merges: the first of a path, and the second of a merge's, was a leaf

  extend_fits : {blocks x y e : ℕ} {n : Marks} {res : Labelling} (la : Laid es p blocks n res x y e (extend_path es x e)) → Fits (get_or la.m'.labels v 0) → Fits (get_or res.marks.labels v 0)
  extend_fits {x = x} {e = e} la f = rw la.marks_is (go (ℕ_discrete v x))
    where
      go : Dec (v ≡ x) → Fits (get_or (following la.up la.label (extend_path es x e) la.m').labels v 0)
      go (yes q) = leaf_fits x _ la.x_leaf q
      go (no q) = rw (following_off la.up la.label (extend_path es x e) v la.m' (λ i s j k. first_or refl k j q (λ n h. no_ith h))) f

  merge_fits : {blocks x y e c : ℕ} {res : Labelling} (la : Laid es p blocks m res x y e (merge_path es x y e c)) → la.m' ≡ m → degree es y ≡ 1
      → ((i : ℕ) (s : Pass) → Ith s i (inwards es y) → s.at ≡ v → Room new v (2 * 2 ^ suc t)) → Fits (get_or res.marks.labels v 0)
  merge_fits {x = x} {y} {e} {c} la mm cy f = rw (la.marks_is, mm) (go (dec_lt v (length m.labels)))
    where
      worn : (u l : ℕ) → Wears la.up la.label (merge_path es x y e c) m v u l → Fits u
      worn u l (given i s j q a b) =
          first_or refl q j (leaf_fits x u la.x_leaf) (λ n h. first_or refl q h (leaf_fits y u cy) (λ n' h'. once_more u (f n' s h' q)))
      worn u l (kept off a b) = same_label u a

      go : Dec (v < length m.labels) → Fits (get_or (following la.up la.label (merge_path es x y e c) m).labels v 0)
      go (yes h) = worn _ _ (wears la.up la.label (merge_path es x y e c) m v h (omega (arith, h, lg.even)))
      go (no h) = no_label _ (get_or-eq_default m.labels 0 (omega (arith, h)))

  -- ---- a ring is closed: its two ends were leaves

  close_fits : {blocks x y e c : ℕ} {res : Labelling} → Closed es p blocks m res x y e c → Fits (get_or res.marks.labels v 0)
  unfolding mark
  close_fits {x = x} {y} cl = rw cl.marks_is (go (ℕ_discrete v x) (ℕ_discrete v y))
    where
      go : Dec (v ≡ x) → Dec (v ≡ y) → Fits (get_or (set (set m.labels x cl.tx) y cl.ty) v 0)
      go (yes q) b = leaf_fits x _ cl.x_leaf q
      go (no a) (yes q) = leaf_fits y _ cl.y_leaf q
      go (no a) (no b) = same_label _ (get_or-set_other (set m.labels x cl.tx) y v cl.ty 0 b ∙ get_or-set_other m.labels x v cl.tx 0 a)

  -- after any edge the vertex has the room for its times
  pub room_landed : {blocks : ℕ} {res : Labelling} → Inserted es p blocks m res → Room (es ++ (p ∷ [])) v (2 ^ suc (t + moved (get_or m.labels v 0) (get_or res.marks.labels v 0)))
  room_landed (fresh ca cb b) = bared_fits b
  room_landed (extends x y e ny l b la mm) = extend_fits la (rw mm (bared_fits b))
  room_landed (merges x y e c cy b le la mm sx sy) =
      merge_fits la mm cy (λ i s j q. subst (λ (w : ℕ). Room new w (2 * 2 ^ suc t)) q
      (room_merged es p pr ne x y e c la.x_end la.y_end la.x_y la.x_leaf cy la.e_at b le sx sy i s j (subst (λ (w : ℕ). Room es w (2 ^ suc t)) (sym q) o)))
  room_landed (closes x y e c cl) = close_fits cl
