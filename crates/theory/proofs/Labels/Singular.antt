-- After one more edge the singular vertices still wear label 0; and how many vertices it relabels.
use mathlib.Core.Path.{◌≡◌, ◌∙◌}
use mathlib.Core.Logic.{◌≢◌, ◌⊎◌, inl, inr}
use Prim.Native.Nat.{ℕ, suc, ◌+◌, ◌≤◌, ◌<◌}
use native.Mathlib.Omega.{arith}
use native.Mathlib.Decide.{ℕ_discrete, dec_lt}
use mathlib.Core.Bool.{true}
use mathlib.Core.List.{List, [], ◌∷◌, ◌++◌}
use lib.ListN.{length, get_or, set, get_or-eq_default}
use lib.Seq.{get_or-set_other}
use Rattle.model.specs.Graph.{Edge, Pass, degree, ends_at}
use Rattle.model.specs.Labels.{Labelling, Marks, mark, relabel_count}
use Rattle.model.proofs.Walks.Degree.{Proper, degree_snoc, ends_at_le, regular_no_end, zero_or_one}
use Rattle.model.proofs.Labels.Following.{following, ith_label, Wears, given, kept, wears, following_long}
use Rattle.theory.proofs.Labels.Relabellings.{relabel_count_path, relabel_count_first, relabel_count_same, relabel_count_bare}
use Rattle.theory.proofs.Labels.Laid.{Laid}
use Rattle.theory.proofs.Labels.Splits.{Bare}
use Rattle.theory.proofs.Labels.Closed.{Closed}
use Rattle.theory.proofs.Labels.Taps.{relaid, before, Taps, no_tap, one_tap, two_taps}
use Rattle.theory.proofs.Labels.Except.{following_off}
use Rattle.model.proofs.Walks.Places.{Ith}
use Rattle.model.proofs.Walks.Tours.{tour_regular}
use Rattle.theory.proofs.Labels.Inwards.{trail_regular}

-- a singular vertex wears label 0
abbrev pub BareSingular : List Edge → Marks → Type 0
BareSingular es m = (v : ℕ) → degree es v ≢ 2 → get_or m.labels v 0 ≡ 0

module _ (es : List Edge) (p : Edge) (d : p.first ≢ p.second) {m : Marks} (z : BareSingular es m) where
  -- after the splits
  pub bare_split : {m' : Marks} → Bare es p m m' → (v : ℕ) → degree (es ++ (p ∷ [])) v ≢ 2 → get_or m'.labels v 0 ≡ 0
  bare_split {m'} b v n = go (ℕ_discrete (degree es v) 2) (zero_or_one (ends_at v p) (ends_at_le v p d))
    where
      go : Dec (degree es v ≡ 2) → (ends_at v p ≡ 0) ⊎ (ends_at v p ≡ 1) → get_or m'.labels v 0 ≡ 0
      go (yes c) (inl o) = absurd (n (omega (arith, degree_snoc es p v)))
      go (yes c) (inr o) = b.label_off v o c
      go (no c) o = b.label_kept v (inl c) ∙ z v c

  -- after a path is labelled the singular vertices wear 0
  pub bare_laid : {blocks x y e : ℕ} {res : Labelling} {path : List Pass} → length m.labels ≡ length m.lows → Laid es p blocks m res x y e path → BareSingular (es ++ (p ∷ [])) res.marks
  bare_laid {path = path} ll l v n = rw l.marks_is (go (dec_lt v (length l.m'.labels)))
    where
      worn : (t low : ℕ) → Wears l.up l.label path l.m' v t low → t ≡ 0
      worn t low (given i s j q r u) = absurd (n (rw q at (trail_regular l.trail i s j)))
      worn t low (kept k r u) = r ∙ bare_split l.bare v n

      go : Dec (v < length l.m'.labels) → get_or (following l.up l.label path l.m').labels v 0 ≡ 0
      go (yes h) = worn _ _ (wears l.up l.label path l.m' v h (omega (arith, h, l.bare.labels_long, l.bare.lows_long)))
      go (no h) = get_or-eq_default (following l.up l.label path l.m').labels 0 (omega (arith, h, (following_long l.up l.label path l.m').labels_long))

  -- how many vertices are relabelled
  pub moves_merge : {blocks x y e : ℕ} {res : Labelling} (s t : Pass) (ss : List Pass) → s.at ≡ x → t.at ≡ y → degree es y ≡ 1 → (l : Laid es p blocks m res x y e (s ∷ t ∷ ss)) → l.m' ≡ m
      → relabel_count m.labels res.marks.labels ≤ length ss
  moves_merge {x = x} {y} s t ss q r cy l mm =
      let bx : get_or m.labels s.at 0 ≡ 0 = rw q (z x (λ c. omega (arith, l.x_leaf))) in
      let by : get_or m.labels t.at 0 ≡ 0 = rw r (z y (λ c. omega arith)) in
      let r₂ = relabel_count_first m.labels l.up (ith_label l.up l.label 0) t ss _ (length ss) by (relabel_count_path m.labels l.up _ ss _) in
      let r₁ = relabel_count_first m.labels l.up l.label s (t ∷ ss) l.m' (length ss) bx r₂ in
      let none : relabel_count m.labels l.m'.labels ≡ 0 = rw mm (relabel_count_same m.labels) in
      rw l.marks_is (omega (arith, r₁, none))

  -- an edge that closes a ring
  pub moves_close : {blocks x y e c : ℕ} {res : Labelling} → Closed es p blocks m res x y e c → relabel_count m.labels res.marks.labels ≡ 0
  unfolding mark
  moves_close {x = x} {y} cl =
      let bx : get_or m.labels x 0 ≡ 0 = z x (λ c. omega (arith, cl.x_leaf)) in
      let by : get_or m.labels y 0 ≡ 0 = z y (λ c. omega (arith, cl.y_leaf)) in
      rw cl.marks_is (omega (arith, relabel_count_bare m.labels (set m.labels x cl.tx) y cl.ty by, relabel_count_bare m.labels m.labels x cl.tx bx, relabel_count_same m.labels))

  -- after a ring is closed the singular vertices wear 0
  pub bare_close : {blocks x y e c : ℕ} {res : Labelling} → Closed es p blocks m res x y e c → BareSingular (es ++ (p ∷ [])) res.marks
  unfolding mark
  bare_close {x = x} {y} cl v n = rw cl.marks_is (get_or-set_other (set m.labels x cl.tx) y v cl.ty 0 (λ q. n (regular y v cl.y_end cl.y_leaf q)) ∙ get_or-set_other m.labels x v cl.tx 0 (λ q. n (regular x v cl.x_end cl.x_leaf q)) ∙ z v was)
    where
      regular : (w v : ℕ) → ends_at w p ≡ 1 → degree es w ≡ 1 → v ≡ w → degree (es ++ (p ∷ [])) v ≡ 2
      regular w v o c q = rw q (omega (arith, degree_snoc es p w))

      was : degree es v ≢ 2
      was c = n (omega (arith, degree_snoc es p v, regular_no_end es p x y v d cl.x_end cl.y_end cl.x_y cl.x_leaf cl.y_leaf c))

-- an edge that extends a chain relabels no more than the taps before it
pub moves_extend : (es : List Edge) (p : Edge) (m : Marks) → BareSingular es m → (k : ℕ) {blocks x y e : ℕ} {n : Marks} {res : Labelling} (s : Pass) → s.at ≡ x
    → (l : Laid es p blocks n res x y e (s ∷ [])) → relabel_count m.labels l.m'.labels ≤ k → relabel_count m.labels res.marks.labels ≤ k
unfolding following
moves_extend es p m z k {x = x} s q l mv =
    let bx : get_or m.labels s.at 0 ≡ 0 = rw q (z x (λ c. omega (arith, l.x_leaf))) in
    let r = relabel_count_first m.labels l.up l.label s [] l.m' 0 bx (relabel_count_path m.labels l.up (ith_label l.up l.label 0) [] _) in
    rw l.marks_is (omega (arith, r, mv))

-- the taps give labels to regular vertices alone
relaid_bare : (es : List Edge) (t x q : ℕ) (path : List Pass) (m : Marks) → degree es x ≡ 2 → ((i : ℕ) (s : Pass) → Ith s i path → degree es s.at ≡ 2) → BareSingular es m → BareSingular es (relaid t x q path m)
unfolding relaid mark
relaid_bare es t x q path m cx cp z v n =
    get_or-set_other (following true t path m).labels x v (t + suc (length path)) 0 (λ e. n (rw e cx))
    ∙ following_off true t path v m (λ i s j e. n (rw (← e) (cp i s j))) ∙ z v n

-- after taps the singular vertices wear 0
pub taps_bare : {es : List Edge} {p : Edge} {blocks blocks₁ k : ℕ} {m m₁ : Marks} → Proper es → Taps es p blocks m blocks₁ m₁ k → BareSingular es m → BareSingular es m₁
taps_bare {m = m} pr (no_tap b e k) z = rw e z
taps_bare {es} {blocks = blocks} {m = m} pr (one_tap x d q path o r b e k) z = rw e (relaid_bare es (before (blocks + 1)) x q path m r.two (tour_regular pr r) z)
taps_bare {es} {blocks = blocks} {m = m} pr (two_taps x d q path y d' q' path' o o' xy f r r' b e k) z =
    rw e (relaid_bare es (before (blocks + 1 + 1)) y q' path' (relaid (before (blocks + 1)) x q path m) r'.two (tour_regular pr r')
    (relaid_bare es (before (blocks + 1)) x q path m r.two (tour_regular pr r) z))
