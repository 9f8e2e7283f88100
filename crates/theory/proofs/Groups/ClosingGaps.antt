-- An edge that closes a group on itself: the labels' distances from their bases stay below twice the size of the group.
use mathlib.Core.Path.{◌≡◌, refl, sym, ap, ◌∙◌, subst}
use mathlib.Core.Logic.{◌≢◌}
use Prim.Native.Nat.{ℕ, zero, suc, ◌+◌, ◌-◌, ◌*◌, ◌≤◌, ◌<◌}
use native.Mathlib.Omega.{arith}
use native.Mathlib.Decide.{dec_lt, dec_le}
use mathlib.Core.List.{List, [], ◌∷◌}
use lib.ListN.{length}
use Rattle.model.specs.Graph.{Edge, Pass, degree, far}
use Rattle.model.specs.Labels.{Marks, inwards}
use Rattle.model.proofs.Walks.Degree.{Proper, is_two, degree_snoc}
use Rattle.model.proofs.Walks.Turn.{At}
use Rattle.model.proofs.Walks.Trail.{Trail, done, pass, trail_cons, Next, next_edge}
use Rattle.theory.proofs.Groups.Shape.{Shape, size, size_fresh, Successive, Courses}
use Rattle.theory.proofs.Groups.Flip.{flipped, flip_place, flip_low, flip_courses}
use Rattle.theory.proofs.Groups.Climb.{low_path, inwards_short}
use Rattle.theory.proofs.Groups.Grown.{grown_to, size_x}
use Rattle.model.proofs.Walks.Places.{Ith, here, later, no_ith, InPath, Off, ith_below}
use Rattle.theory.proofs.Groups.Origins.{Origins, Aligned, offset, fits_near}
use Rattle.theory.proofs.Groups.Laying.{begins, growth}
use Rattle.theory.proofs.Groups.GrownLabels.{renewed}
use Rattle.theory.proofs.Groups.Realigned.{ClosedLabels}
use Rattle.theory.proofs.Labels.Inwards.{Inward, inward}
use Rattle.theory.proofs.Groups.Closing.{Closing, closed, size₁, Who, of_path, of_old, Stood, stood, old_below, single, missed}
use Rattle.model.proofs.Walks.Joins.{across}

trail_first : {es : List Edge} {d v q w i : ℕ} {s : Pass} {ss : List Pass} → Trail es d v ss q w → Ith s i ss → degree es v ≡ 2
trail_first {ss = []} u j = absurd (no_ith j)
trail_first {es} {v = v} {ss = t ∷ ss} u j = is_two es v (trail_cons u).1

-- all regular vertices of a trail are of one block
pub one_block : (es : List Edge) → Proper es → {m : Marks} {blocks : ℕ} {h : Shape} {l : Origins} → Aligned es m blocks h l
    → {e v q z : ℕ} {ss : List Pass} → At es v e → Trail es e v ss q z → (i : ℕ) (s : Pass) → Ith s i ss → l.block s.at ≡ l.block v
one_block es pr lab a done i s j = absurd (no_ith j)
one_block es pr lab a (pass t c tn u) zero s here = refl
one_block es pr lab {e} {v} a (pass t c tn u) (suc i) s (later j) =
    let nx : Next es e v t = next_edge es e v t pr a c tn in
    one_block es pr lab nx.across.at u i s j ∙ lab.along (far es t v) v t (trail_first u j) (is_two es v c) nx.across.at nx.at

module _ (jo : Closing) where
  open jo use {ly, c, path_is, cy, ac, lo, bot, eq, none_after, le}
  open ly use {es, p, pr, x, y, e, path, la, high}
  open high.ghosts use {shape as h, courses as w}
  open growth ly use {gx, gy}
  open grown_to (growth ly) use {new, h'}
  open begins ly use {origins as l, aligned as lab, now}
  open renewed (closed jo) use {l', marks_after}

  abbrev s : ℕ
  s = size₁ jo

  path_below : (i : ℕ) (t : Pass) → Ith t i path → i ≤ length (inwards es y) + 1
  path_below i t j = omega (arith, ith_below j, ap length path_is)

  gap_of : (v : ℕ) (hv : Stood jo v) (c : ℕ) → hv.at ≤ l.origin (l'.block v) + c → l.origin (l'.block v) ≤ hv.at + c → offset marks_after l' v ≤ c
  gap_of v hv c f g = fits_near l (l'.block v) hv.at _ c hv.fits f g

  size_now : size h' (length new) gx ≡ s + 1
  size_now = omega (arith, size_x (growth ly), size_fresh w gy none_after)

  high_at : (v : ℕ) (hv : Stood jo v) → hv.at ≤ s + length (inwards es y) + 1
  high_at v hv = go hv.who
    where
      go : Who jo v hv.at → hv.at ≤ s + length (inwards es y) + 1
      go (of_path i t j f g bl) = omega (arith, g, path_below i t j)
      go (of_old u g n o bl) = omega (arith, g, old_below jo v u)

  within : (v a : ℕ) → degree new v ≡ 2 → At new v a → h'.group a ≡ gx → offset marks_after l' v + 1 ≤ 2 * size h' (length new) gx
  within v a two b q =
      let hv = stood jo v a two b q in
      let g = gap_of v hv (2 * s + 1) (omega (arith, high_at v hv, le, inwards_short es pr w x e la.x_leaf la.e_at)) (omega (arith, hv.last)) in
      rw size_now (omega (arith, g))

  -- an old regular vertex of another block stands between the two chains
  above_y : (v : ℕ) (u : Successive es h v gx) → Off path v → length (inwards es y) < h.place u.hi
  above_y v u n = go (dec_lt (length (inwards es y)) (h.place u.hi))
    where
      go : Dec (length (inwards es y) < h.place u.hi) → length (inwards es y) < h.place u.hi
      go (yes z) = z
      go (no z) =
          let f = low_path es pr w y c cy ac lo bot u.hi v (h.place u.lo) u.hi_at.inside (u.hi_group ∙ sym eq) u.step u.hi_end (omega (arith, z, u.step)) in
          absurd (n (suc (suc f.index)) f.pass_is (subst (λ (ss : List Pass). Ith f.pass_is (suc (suc f.index)) ss) (sym path_is) (later (later f.ith))) f.at_is)

  below_x : (v : ℕ) (u : Successive es h v gx) → l.block v ≢ now → h.place u.hi + length (inwards es x) < s
  below_x v u n = go (dec_lt (h.place u.hi + length (inwards es x)) s)
    where
      wf : Courses es ly.relabellings (flipped es h gx)
      wf = flip_courses es pr w gx (w.leaf_open x e la.x_leaf la.e_at)

      inward_x : Inward es x e (inwards es x)
      inward_x = inward es pr x e la.x_leaf la.e_at

      found : InPath (inwards es x) v → ⊥
      found f =
          let two : degree es (far es e x) ≡ 2 = trail_first inward_x.trail f.ith in
          let now' : l.block (far es e x) ≡ now = (begins ly).beside (omega (arith, degree_snoc es p (far es e x), missed jo (far es e x) two)) in
          n (sym (ap l.block f.at_is) ∙ one_block es pr lab (across es e x pr la.e_at).at inward_x.trail f.index f.pass_is f.ith ∙ now')

      go : Dec (h.place u.hi + length (inwards es x) < s) → h.place u.hi + length (inwards es x) < s
      go (yes z) = z
      go (no z) =
          let pl = flip_place es pr w gx u.lo u.lo_at.inside u.lo_group in
          let pe = flip_place es pr w gx e la.e_at.inside refl in
          absurd (found (low_path es pr wf x e la.x_leaf la.e_at (flip_low es h gx e refl ∙ high.hi) (omega (arith, pe, high.top)) u.lo v (s - suc (h.place u.hi)) u.lo_at.inside
          u.lo_group (omega (arith, pl, u.step, old_below jo v u)) (flip_low es h gx u.lo u.lo_group ∙ u.lo_end) (omega (arith, z, old_below jo v u))))

  path_and_old : (v z : ℕ) (hv : Stood jo v) (hz : Stood jo z) (i : ℕ) → i ≤ length (inwards es y) + 1 → hv.at ≡ s + i → (u : Successive es h z gx) → hz.at ≡ h.place u.hi
      → Off path z → l.origin (l'.block z) < s → l.block z ≢ now
      → offset marks_after l' v + offset marks_after l' z + 1 ≤ 2 * (s + 1)
  path_and_old v z hv hz i il at_v u at-z n ol bl =
      let y_side = above_y z u n in
      let x_side = below_x z u bl in
      let gv = gap_of v hv (s + length (inwards es y)) (omega (arith, at_v, il, hv.first)) (omega (arith, hv.last)) in
      go y_side x_side gv (dec_le (h.place u.hi) (l.origin (l'.block z)))
    where
      go : length (inwards es y) < h.place u.hi → h.place u.hi + length (inwards es x) < s → offset marks_after l' v ≤ s + length (inwards es y)
          → Dec (h.place u.hi ≤ l.origin (l'.block z))
          → offset marks_after l' v + offset marks_after l' z + 1 ≤ 2 * (s + 1)
      go ys xs gv (yes o) =
          let gz = gap_of z hz (s - h.place u.hi) (omega (arith, at-z, o)) (omega (arith, at-z, ol)) in
          omega (arith, gv, gz, ys, old_below jo z u)
      go ys xs gv (no o) =
          let gz = gap_of z hz (h.place u.hi) (omega (arith, at-z)) (omega (arith, at-z, o)) in
          omega (arith, gv, gz, xs, le)

  within_two : (v z a b : ℕ) → degree new v ≡ 2 → degree new z ≡ 2 → At new v a → At new z b → h'.group a ≡ gx → h'.group b ≡ gx → l'.block v ≢ l'.block z
      → offset marks_after l' v + offset marks_after l' z + 1 ≤ 2 * size h' (length new) gx
  within_two v z a b cv cz av az gv gz bl = rw size_now (go hv.who hz.who)
    where
      hv : Stood jo v
      hv = stood jo v a cv av gv

      hz : Stood jo z
      hz = stood jo z b cz az gz

      go : Who jo v hv.at → Who jo z hz.at → offset marks_after l' v + offset marks_after l' z + 1 ≤ 2 * (s + 1)
      go (of_path i t j f g q) (of_path i' t' j' f' g' q') = absurd (bl (q ∙ sym q'))
      go (of_path i t j f g q) (of_old u' g' n' o' q') =
          path_and_old v z hv hz i (path_below i t j) g u' g' n' o' (λ o. bl (q ∙ sym o ∙ sym q'))
      go (of_old u g n o q) (of_path i' t' j' f' g' q') =
          let e' = path_and_old z v hz hv i' (path_below i' t' j') g' u g n o (λ o. bl (q ∙ o ∙ sym q')) in
          omega (arith, e')
      go (of_old u g n o q) (of_old u' g' n' o' q') =
          let ev = gap_of v hv s (omega (arith, g, old_below jo v u)) (omega (arith, hv.last)) in
          let ez = gap_of z hz s (omega (arith, g', old_below jo z u')) (omega (arith, hz.last)) in
          omega (arith, ev, ez)

  -- the labels of the closed group differ, and are near their bases
  pub closing : ClosedLabels (closed jo)
  closing = record { single_x = single jo; within_x = within; within_two_x = within_two }
