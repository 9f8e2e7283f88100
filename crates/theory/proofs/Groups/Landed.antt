-- Every landed edge keeps the ghost state.
use mathlib.Core.Path.{◌≡◌, refl, sym, subst}
use mathlib.Core.Logic.{◌≢◌, inr}
use Prim.Native.Nat.{ℕ, suc, ◌+◌, ◌≤◌, ◌<◌}
use native.Mathlib.Omega.{arith}
use native.Mathlib.Decide.{ℕ_discrete}
use mathlib.Core.Bool.{Bool, true, false}
use mathlib.Core.List.{List, [], ◌∷◌, ◌++◌}
use lib.ListN.{length}
use Rattle.model.specs.Graph.{Edge, Pass, degree, ends_at}
use Rattle.model.specs.Labels.{Labelling, Marks, inwards, relabel_count}
use Rattle.model.proofs.Basics.Booleans.{not_both}
use Rattle.model.proofs.Walks.Degree.{Proper, degree_snoc, end_first, end_second, no_end, proper_snoc}
use Rattle.model.proofs.Walks.Turn.{At}
use Rattle.model.proofs.Walks.Joins.{across}
use Rattle.model.proofs.Walks.Trail.{trail_at}
use Rattle.model.proofs.Walks.NewEdge.{at_new}
use Rattle.model.proofs.Walks.Places.{no_ith}
use Rattle.model.proofs.Labels.Following.{following, label_at, low_at}
use Rattle.theory.proofs.Labels.Relabellings.{relabel_count_same}
use Rattle.theory.proofs.Labels.Inwards.{Last, nothing, passed, trail_last}
use Rattle.theory.proofs.Labels.Laid.{extend_path, merge_path, Laid, Inserted, fresh, extends, merges, closes, fresh_none}
use Rattle.theory.proofs.Labels.WearsAfter.{LongEnough, WearsAfter, as_was}
use Rattle.theory.proofs.Labels.Singular.{BareSingular, moves_extend, moves_merge, moves_close}
use Rattle.theory.proofs.Labels.Splits.{Bare}
use Rattle.theory.proofs.Labels.Taps.{Bared}
use Rattle.theory.proofs.Groups.Shape.{Shape, size, size_most, Courses}
use Rattle.theory.proofs.Groups.Climb.{inwards_short}
use Rattle.theory.proofs.Groups.Rings.{CutIn}
use Rattle.theory.proofs.Groups.Grown.{Growth, grown_to}
use Rattle.theory.proofs.Groups.GrownCourses.{grown_courses}
use Rattle.theory.proofs.Groups.GrownCuts.{SoonCuts, cuts_soon, soon_alike, grown_cuts}
use Rattle.theory.proofs.Groups.Seams.{Seam, seam_new, seam_extend, seam_merge, seam_close}
use Rattle.theory.proofs.Groups.Ghosts.{Ghosts, High, turn_high, Facing, turn_facing}
use Rattle.theory.proofs.Groups.GrownLabels.{GrownLabels, renewed}
use Rattle.theory.proofs.Groups.Realigned.{ClosedLabels, grown_aligned}
use Rattle.theory.proofs.Groups.Tapping.{Settled, Tapped, taps_tapped}
use Rattle.theory.proofs.Labels.Relaid.{taps_long}
use Rattle.theory.proofs.Groups.Laying.{Laying, growth, grown_labels, in_open}
use Rattle.theory.proofs.Groups.Closing.{Closing, closed, groups}
use Rattle.theory.proofs.Groups.ClosingGaps.{closing}
use Rattle.theory.proofs.Groups.RingSettled.{ring_settled}

-- one step on the ghost state
grown_settled : (re : GrownLabels) → SoonCuts re.it.es re.it.p re.it.h → (re.it.b ≡ false → ClosedLabels re)
    → (re.it.b ≡ false → re.it.r ≡ false → CutIn (grown_to re.it).new (grown_to re.it).h' re.it.gx)
    → Settled (grown_to re.it).new (re.it.relabellings + re.it.k) (renewed re).marks_after re.blocks'
grown_settled re soon labels shut = record {
  ghosts = record {
    shape = (grown_to re.it).h';
    courses = grown_courses re.it;
    origins = (renewed re).l';
    aligned = grown_aligned re labels;
  };
  cuts = grown_cuts re.it soon shut;
}

open_settled : (re : GrownLabels) → SoonCuts re.it.es re.it.p re.it.h → re.it.b ≡ true
    → Settled (grown_to re.it).new (re.it.relabellings + re.it.k) (renewed re).marks_after re.blocks'
open_settled re soon t = grown_settled re soon (λ f. absurd (not_both _ t f)) (λ f. absurd (not_both _ t f))

-- a merge within one group: the walk of the chain that gives way ended at a singular vertex of the group
module _ (jo : Closing) where
  open jo use {ly}
  open ly use {es, p, pr, d, x, e, path, la}
  open grown_to (growth ly) use {new, h'}

  proper_new : Proper new
  proper_new = proper_snoc es p pr d

  cut_of : CutIn new h' (growth ly).gx
  cut_of = go (trail_last proper_new (at_new es p la.e_at) la.trail)
    where
      go : Last new e x path la.onto la.to → CutIn new h' (growth ly).gx
      go (nothing i j) = absurd (la.stops (subst (λ (z : ℕ). degree new z ≡ 2) (sym j) (let c : degree new x ≡ 2 = omega (arith, degree_snoc es p x, la.x_leaf, la.x_end) in c)))
      go (passed f) =
          let a : At new la.to la.onto = trail_at proper_new (at_new es p la.e_at) la.trail in
          let b : At new f.pass_is.at la.onto = rw f.at_is (across new la.onto la.to proper_new a).at in
          record { vertex = la.to; edge = la.onto; at = a; group_is = groups jo f.index f.pass_is la.onto f.ith b; cut = la.stops }

module _ (es : List Edge) (p : Edge) (pr : Proper es) (d : p.first ≢ p.second) {blocks : ℕ} {m : Marks} {relabellings : ℕ} (tp : Tapped es p relabellings m blocks)
    (res : Labelling) (room : length es < 4096) (lg : LongEnough (es ++ (p ∷ [])) m) where
  abbrev new : List Edge
  new = es ++ (p ∷ [])

  abbrev q : Ghosts es relabellings m blocks
  q = tp.ghosts

  -- no leaf
  on_fresh : degree es p.first ≢ 1 → degree es p.second ≢ 1 → res.blocks ≡ blocks → Bare es p m res.marks → Settled new (relabellings + 0) res.marks res.blocks
  unfolding label_at low_at
  on_fresh ca cb eb b =
      let s = seam_new es p pr q.courses p.first p.second (end_first p d) (end_second p d) d ca cb in
      let it : Growth = record { es = es; p = p; pr = pr; d = d; relabellings = relabellings; h = q.shape; w = q.courses; gx = length es; gy = suc (length es); x = p.first; y = p.second; k = 0; b = true; r = false; s = s } in
      let re : GrownLabels = record {
        it = it;
        m = m;
        blocks' = res.blocks;
        l = q.origins;
        lab = rw eb q.aligned;
        path = [];
        up = true;
        ith = λ i. 0;
        now = 0;
        start = 0;
        path_group = λ i t e j a. absurd (no_ith j);
        path_beside = λ i t w e j c a b. absurd (no_ith j);
        path_spot = λ o i t j. absurd (no_ith j);
        path_block_lem = λ i t j. absurd (no_ith j);
        path_fits = λ z i t j. absurd (no_ith j);
        marks_after = res.marks;
        worn = λ v e c a. no_path v c;
      } in
      open_settled re tp.soon refl
    where
      no_path : (v : ℕ) → degree new v ≡ 2 → WearsAfter es p m true (λ i. 0) [] res.marks v
      no_path v c =
          let z : ends_at v p ≡ 0 = no_end p v d (λ o. fresh_none es p ca cb v o c) in
          as_was (omega (arith, degree_snoc es p v)) z (λ i s j. absurd (no_ith j)) (b.label_kept v (inr z)) (b.low_kept v (inr z))

  abbrev laying : {x y e : ℕ} {path : List Pass} → Laid es p blocks m res x y e path → {h₀ : Shape} (f : High es relabellings m blocks h₀ x e) → {gy k : ℕ} {b : Bool}
      → Seam es p f.ghosts.shape (f.ghosts.shape.group e) gy x y k b false → f.ghosts.shape.place e + length path ≤ 8192 → Laying
  laying {x} {y} {e} {path} la {h₀} f {gy} {k} {b} s fewer =
      record { es = es; p = p; pr = pr; d = d; relabellings = relabellings; blocks = blocks; m = m; lg = lg; res = res; x = x; y = y; e = e; path = path; la = la; h₀ = h₀; high = f; gy = gy; k = k; b = b; s = s; fewer = fewer }

  -- one leaf
  on_extend : (x y e : ℕ) (la : Laid es p blocks m res x y e (extend_path es x e)) → degree es y ≢ 1
      → Settled new (relabellings + 0) (following la.up la.label (extend_path es x e) la.m') res.blocks
  on_extend x y e la ny =
      let f : High es relabellings m blocks q.shape x e = turn_high es pr q x e la.x_leaf la.e_at in
      let h = f.ghosts.shape in
      let s = seam_extend es p pr f.ghosts.courses x y la.x_end la.y_end la.x_y e la.x_leaf la.e_at f.hi f.top ny in
      let ly : Laying = laying la f s (omega (arith, f.top, size_most h (length es) (h.group e), room)) in
      open_settled (grown_labels ly (in_open ly refl)) (soon_alike es p f.alike tp.soon) refl

  -- two leaves
  on_merge : (x y e c : ℕ) (la : Laid es p blocks m res x y e (merge_path es x y e c))
      → degree es y ≡ 1 → At es y c → length (inwards es y) ≤ length (inwards es x) → (k : ℕ) → k ≤ length (inwards es y)
      → Settled new (relabellings + k) (following la.up la.label (merge_path es x y e c) la.m') res.blocks
  on_merge x y e c la cy b le k kl = go (ℕ_discrete (h.group e) (h.group c))
    where
      f : Facing es relabellings m blocks q.shape x e y c
      f = turn_facing es pr q x e y c la.x_y la.x_leaf la.e_at cy b

      h : Shape
      h = f.high.ghosts.shape

      w : Courses es relabellings h
      w = f.high.ghosts.courses

      path : List Pass
      path = merge_path es x y e c

      less : length (inwards es x) < size h (length es) (h.group e)
      less = inwards_short es pr w x e la.x_leaf la.e_at

      fewer : h.place e + length path ≤ 8192
      fewer = omega (arith, f.high.top, size_most h (length es) (h.group e), room, less, le)

      soon : SoonCuts es p h
      soon = soon_alike es p f.high.alike tp.soon

      apart : h.group e ≢ h.group c → Settled new (relabellings + k) (following la.up la.label path la.m') res.blocks
      apart n =
          let s = seam_merge es p pr w x y la.x_end la.y_end la.x_y e la.x_leaf la.e_at f.high.hi f.high.top c cy b f.lo f.bot k (omega (arith, less)) n (omega (arith, inwards_short es pr w y c cy b)) in
          let ly : Laying = laying la f.high s fewer in
          open_settled (grown_labels ly (in_open ly refl)) soon refl

      shut : h.group c ≡ h.group e → Settled new (relabellings + k) (following la.up la.label path la.m') res.blocks
      shut n =
          let s = seam_close es p pr w x y la.x_end la.y_end la.x_y e la.x_leaf la.e_at f.high.hi f.high.top c cy b f.lo f.bot k (omega (arith, less)) n in
          let jo : Closing = record { ly = laying la f.high s fewer; c = c; path_is = refl; cy = cy; ac = b; lo = f.lo; bot = f.bot; eq = n; none_after = omega arith; le = le } in
          grown_settled (closed jo) soon (λ o. closing jo) (λ o r. cut_of jo)

      go : Dec (h.group e ≡ h.group c) → Settled new (relabellings + k) (following la.up la.label path la.m') res.blocks
      go (yes n) = shut (sym n)
      go (no n) = apart n

module _ (es : List Edge) (p : Edge) (pr : Proper es) (d : p.first ≢ p.second) {blocks : ℕ} {m : Marks} (z : BareSingular es m)
    {relabellings : ℕ} (st : Settled es relabellings m blocks) (res : Labelling) (room : length es < 4096) (lg : LongEnough (es ++ (p ∷ [])) m) where
  abbrev k : ℕ
  k = relabel_count m.labels res.marks.labels

  lg_old : LongEnough es m
  lg_old = record { long = λ v e a. lg.long v e (at_new es p a); even = lg.even }

  plus_zero : (a : ℕ) → a + 0 ≡ a
  plus_zero a = omega arith

  -- what the taps of the edge leave, where they change all the labels that it changes
  tapped_all : {l : Labelling} (b : Bared es p blocks m l) → k ≤ b.k → Tapped es p (relabellings + k) b.after l.blocks
  tapped_all b le = taps_tapped p pr st lg_old b.taps k le

  -- every landed edge keeps the ghost state, its relabellings charged
  pub settled_on : Inserted es p blocks m res → Settled (es ++ (p ∷ [])) (relabellings + relabel_count m.labels res.marks.labels) res.marks res.blocks
  settled_on (fresh ca cb b) =
      let le : k ≤ b.k = omega (arith, b.moves m.labels, relabel_count_same m.labels) in
      subst (λ (n : ℕ). Settled (es ++ (p ∷ [])) n res.marks res.blocks) (plus_zero (relabellings + k))
      (on_fresh es p pr d (tapped_all b le) res room (taps_long b.taps lg) ca cb refl b.bare)
  settled_on (extends x y e ny l b la mm) =
      let mv : relabel_count m.labels la.m'.labels ≤ b.k = rw mm (omega (arith, b.moves m.labels, relabel_count_same m.labels)) in
      let le : k ≤ b.k = moves_extend es p m z b.k _ refl la mv in
      subst (λ (n : ℕ). Settled (es ++ (p ∷ [])) n res.marks res.blocks) (plus_zero (relabellings + k))
      (subst (λ (o : Marks). Settled (es ++ (p ∷ [])) (relabellings + k + 0) o res.blocks) (sym la.marks_is) (on_extend es p pr d (tapped_all b le) res room (taps_long b.taps lg) x y e la ny))
  settled_on (merges x y e c cy b le la mm sx sy) =
      subst (λ (o : Marks). Settled (es ++ (p ∷ [])) (relabellings + k) o res.blocks) (sym la.marks_is)
      (on_merge es p pr d (record { ghosts = st.ghosts; soon = cuts_soon es p st.ghosts.courses st.cuts }) res room lg x y e c la cy b le k
      (moves_merge es p d z _ _ (inwards es y) refl refl cy la mm))
  settled_on (closes x y e c cl) =
      subst (λ (n : ℕ). Settled (es ++ (p ∷ [])) (relabellings + n) res.marks res.blocks) (sym (moves_close es p d z cl))
      (ring_settled (record {
        es = es;
        p = p;
        pr = pr;
        d = d;
        room = room;
        relabellings = relabellings;
        blocks = blocks;
        m = m;
        lg = lg;
        res = res;
        x = x;
        y = y;
        e = e;
        c = c;
        cl = cl;
        h₀ = st.ghosts.shape;
        face = turn_facing es pr st.ghosts x e y c cl.x_y cl.x_leaf cl.e_at cl.y_leaf cl.c_at;
      }) (cuts_soon es p st.ghosts.courses st.cuts))
