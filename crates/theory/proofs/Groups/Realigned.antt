-- The labels after one more edge fit the groups after it: on an open course by their places, on a closed one near their bases.
use mathlib.Core.Path.{◌≡◌, refl, sym, ◌∙◌, subst}
use mathlib.Core.Logic.{◌≢◌}
use Prim.Native.Nat.{ℕ, ◌+◌, ◌*◌, ◌≤◌}
use native.Mathlib.Omega.{arith}
use native.Mathlib.Decide.{ℕ_discrete}
use mathlib.Core.Bool.{Bool, true, false}
use lib.ListN.{length}
use Rattle.model.specs.Graph.{Pass, degree}
use Rattle.model.specs.Labels.{base}
use Rattle.model.proofs.Walks.Turn.{At}
use Rattle.theory.proofs.Groups.Shape.{size, pick_no}
use Rattle.theory.proofs.Groups.Climb.{spot_successive}
use Rattle.model.proofs.Walks.NewEdge.{old_edge}
use Rattle.model.proofs.Walks.Places.{Ith}
use Rattle.model.proofs.Labels.Following.{low_of, label_at, low_at}
use Rattle.theory.proofs.Labels.WearsAfter.{in_path, as_was}
use Rattle.theory.proofs.Groups.Origins.{Stand, Fits, LowIs, Aligned, offset}
use Rattle.theory.proofs.Groups.Grown.{grown_to, goes_to, goes_by, seen_old, seen_y, seen_o, size_x, size_o, goes_room, open_gx, open_o, was_open}
use Rattle.theory.proofs.Groups.GrownEnds.{successive_old}
use Rattle.theory.proofs.Groups.GrownLabels.{GrownLabels, renewed, Now, view, block_in, block_out, owned', along', least', most'}

fits_shift : (up : Bool) (q b i t c : ℕ) → Fits up q b i t → Fits up (c + q) b (c + i) t
fits_shift true q b i t c e = omega (arith, e)
fits_shift false q b i t c e = omega (arith, e)

low_of_path : (up : Bool) (t : Pass) → LowIs up t.before t.after (low_of up t)
unfolding low_of
low_of_path true t = refl
low_of_path false t = refl

module _ (re : GrownLabels) where
  open re use {it, m, blocks', l, lab, path, up, ith, now, path_group, path_spot, path_block_lem, path_fits}
  open it use {es, p, h, gx, gy, b, s}
  open grown_to it use {new, h'}
  open renewed re use {l', marks_after}

  -- where regular vertices stand
  stand_path : b ≡ true → (v i : ℕ) (t : Pass) → Ith t i path → t.at ≡ v → label_at marks_after v ≡ ith i → low_at marks_after v ≡ low_of up t → l'.block v ≡ now → Stand new marks_after h' l' v gx
  unfolding spot_successive
  stand_path tr v i t j q f g bl =
      let sp = path_spot tr i t j in
      let k = path_block_lem i t j in
      let o : l'.origin now ≡ l.origin now = omega (arith, pick_no (l.owner now) gy (size h (length es) gx + 1) 0 (λ z. s.differ (sym k.owner_is ∙ z))) in
      record {
        between = spot_successive q sp;
        first = rw (bl, o) k.first;
        last = rw (bl, o, size_x it) (omega (arith, k.last));
        fits = rw (bl, o, sp.after_place, f) (path_fits tr i t j);
        low_is = rw (bl, k.rising_is, g) (low_of_path up t);
      }

  -- an old regular vertex moves with its group
  stand_old : (v g : ℕ) → l.owner (l.block v) ≡ g → label_at marks_after v ≡ label_at m v → low_at marks_after v ≡ low_at m v → l'.block v ≡ l.block v → Stand es m h l v g
      → Stand new marks_after h' l' v (goes_to it g)
  unfolding successive_old
  stand_old v g o f low bl st =
      let u = st.between in
      record {
        between = successive_old it v g u;
        first = rw bl (omega (arith, st.first));
        last = rw (bl, o) (omega (arith, st.last, goes_room it g));
        fits = rw (bl, o, (seen_old it u.hi g u.hi_at.inside u.hi_group).place_is, f)
            (fits_shift (l.rising (l.block v)) (l.origin (l.block v)) (base (l.block v)) (h.place u.hi) (label_at m v) (goes_by it g) st.fits);
        low_is = rw (bl, low) st.low_is;
      }

  stands' : (v e : ℕ) → degree new v ≡ 2 → At new v e → h'.is_open (h'.group e) ≡ true → Stand new marks_after h' l' v (h'.group e)
  stands' v e c a t = go (view re v e c a)
    where
      go : Now re v → Stand new marks_after h' l' v (h'.group e)
      go (in_path i u j q f g) =
          let gi : h'.group e ≡ gx = path_group i u e j (subst (λ (z : ℕ). At new z e) (sym q) a) in
          let t' : h'.is_open gx ≡ true = rw gi at t in
          rw gi (stand_path (sym (open_gx it) ∙ t') v i u j q f g (block_in re v i u j q))
      go (as_was c' z n f g) =
          let a' = old_edge es p v e z a in
          rw (seen_old it e _ a'.inside refl).group_is
          (stand_old v (h.group e) (lab.owned v e c' a') f g (block_out re v n) (lab.stands v e c' a' (was_open it e a'.inside t)))

  -- a regular vertex of another group is as it was
  record Other (v e : ℕ) : Type 0 where
    was_two : degree es v ≡ 2
    was_at : At es v e
    not_x : h.group e ≢ gx
    not_y : h.group e ≢ gy
    group_is : h'.group e ≡ h.group e
    label_is : label_at marks_after v ≡ label_at m v
    block_is : l'.block v ≡ l.block v

  other : (v e : ℕ) → degree new v ≡ 2 → At new v e → h'.group e ≢ gx → Other v e
  other v e c a n = go (view re v e c a)
    where
      go : Now re v → Other v e
      go (in_path i t j q f g) = absurd (n (path_group i t e j (subst (λ (z : ℕ). At new z e) (sym q) a)))
      go (as_was c' z nr f g) = inner (ℕ_discrete (h.group e) gy)
        where
          a' : At es v e
          a' = old_edge es p v e z a

          inner : Dec (h.group e ≡ gy) → Other v e
          inner (yes q) = absurd (n (seen_y it e a'.inside q).group_is)
          inner (no q) =
              let o = seen_o it e _ q a'.inside refl in
              record {
                was_two = c';
                was_at = a';
                not_x = λ r. n (o.group_is ∙ r);
                not_y = q;
                group_is = o.group_is;
                label_is = f;
                block_is = block_out re v nr;
              }

  -- a closed group: these facts where it is the one that the edge closes
  pub record ClosedLabels : Type 0 where
    pub single_x : (v u e c : ℕ) → degree new v ≡ 2 → degree new u ≡ 2 → At new v e → At new u c → h'.group e ≡ gx → h'.group c ≡ gx → l'.block v ≡ l'.block u → label_at marks_after v ≡ label_at marks_after u → v ≡ u
    pub within_x : (v e : ℕ) → degree new v ≡ 2 → At new v e → h'.group e ≡ gx → offset marks_after l' v + 1 ≤ 2 * size h' (length new) gx
    pub within_two_x : (v u e c : ℕ) → degree new v ≡ 2 → degree new u ≡ 2 → At new v e → At new u c → h'.group e ≡ gx → h'.group c ≡ gx → l'.block v ≢ l'.block u
        → offset marks_after l' v + offset marks_after l' u + 1 ≤ 2 * size h' (length new) gx

  module _ (closing : b ≡ false → ClosedLabels) where
    shut_x : (e : ℕ) → h'.is_open (h'.group e) ≡ false → h'.group e ≡ gx → b ≡ false
    shut_x e t q = let t' : h'.is_open gx ≡ false = rw q at t in sym (open_gx it) ∙ t'

    shut_o : (v e : ℕ) → Other v e → h'.is_open (h'.group e) ≡ false → h.is_open (h.group e) ≡ false
    shut_o v e o t = let t' : h'.is_open (h.group e) ≡ false = rw o.group_is at t in sym (open_o it (h.group e) o.not_x) ∙ t'

    single' : (v u e c : ℕ) → degree new v ≡ 2 → degree new u ≡ 2 → At new v e → At new u c → h'.is_open (h'.group e) ≡ false → h'.group c ≡ h'.group e
        → l'.block v ≡ l'.block u → label_at marks_after v ≡ label_at marks_after u → v ≡ u
    single' v u e c cv cu av au t q bl tg = go (ℕ_discrete (h'.group e) gx)
      where
        go : Dec (h'.group e ≡ gx) → v ≡ u
        go (yes z) = (closing (shut_x e t z)).single_x v u e c cv cu av au z (q ∙ z) bl tg
        go (no z) =
            let o = other v e cv av z in
            let o' = other u c cu au (λ i. z (sym q ∙ i)) in
            lab.single v u e c o.was_two o'.was_two o.was_at o'.was_at (shut_o v e o t) (sym o'.group_is ∙ q ∙ o.group_is)
            (sym o.block_is ∙ bl ∙ o'.block_is) (sym o.label_is ∙ tg ∙ o'.label_is)

    within' : (v e : ℕ) → degree new v ≡ 2 → At new v e → h'.is_open (h'.group e) ≡ false → offset marks_after l' v + 1 ≤ 2 * size h' (length new) (h'.group e)
    within' v e c a t = go (ℕ_discrete (h'.group e) gx)
      where
        go : Dec (h'.group e ≡ gx) → offset marks_after l' v + 1 ≤ 2 * size h' (length new) (h'.group e)
        go (yes z) = rw z ((closing (shut_x e t z)).within_x v e c a z)
        go (no z) =
            let o = other v e c a z in
            rw (o.label_is, o.block_is, o.group_is, size_o it (h.group e) o.not_x o.not_y) (lab.within v e o.was_two o.was_at (shut_o v e o t))

    within_two' : (v u e c : ℕ) → degree new v ≡ 2 → degree new u ≡ 2 → At new v e → At new u c → h'.is_open (h'.group e) ≡ false → h'.group c ≡ h'.group e
        → l'.block v ≢ l'.block u → offset marks_after l' v + offset marks_after l' u + 1 ≤ 2 * size h' (length new) (h'.group e)
    within_two' v u e c cv cu av au t q bl = go (ℕ_discrete (h'.group e) gx)
      where
        go : Dec (h'.group e ≡ gx) → offset marks_after l' v + offset marks_after l' u + 1 ≤ 2 * size h' (length new) (h'.group e)
        go (yes z) = rw z ((closing (shut_x e t z)).within_two_x v u e c cv cu av au z (q ∙ z) bl)
        go (no z) =
            let o = other v e cv av z in
            let o' = other u c cu au (λ i. z (sym q ∙ i)) in
            rw (o.label_is, o.block_is, o.group_is, o'.label_is, o'.block_is, size_o it (h.group e) o.not_x o.not_y)
            (lab.within_two v u e c o.was_two o'.was_two o.was_at o'.was_at (shut_o v e o t) (sym o'.group_is ∙ q ∙ o.group_is)
            (λ i. bl (o.block_is ∙ i ∙ sym o'.block_is)))

    -- the labels after the landing keep the invariant
    pub grown_aligned : Aligned new marks_after blocks' h' l'
    grown_aligned = record {
      owned = owned' re;
      least = least' re;
      most = most' re;
      along = along' re;
      stands = stands';
      single = single';
      within = within';
      within_two = within_two';
    }
