-- An edge that closes a ring: no label stands twice, and each is near its base. Nothing is relabelled.
use mathlib.Core.Path.{◌≡◌, refl, sym, ap, ◌∙◌, subst}
use mathlib.Core.Logic.{◌⊎◌, inl, inr}
use Prim.Native.Nat.{ℕ, suc, ◌+◌, ◌≤◌, ◌<◌}
use native.Mathlib.Omega.{arith}
use mathlib.Core.List.{[], ◌∷◌, ◌++◌}
use lib.ListN.{length}
use Rattle.model.specs.Graph.{Pass, degree}
use Rattle.model.specs.Labels.{Marks}
use Rattle.model.proofs.Basics.Booleans.{not_both}
use Rattle.model.proofs.Walks.Turn.{At}
use Rattle.model.proofs.Walks.NewEdge.{old_edge}
use Rattle.model.proofs.Walks.Places.{Ith, here, later, no_ith}
use Rattle.model.proofs.Labels.Following.{label_at}
use Rattle.theory.proofs.Labels.WearsAfter.{in_path, as_was}
use Rattle.theory.proofs.Groups.Shape.{size, Successive, group_fresh, size_fresh, place_fits, successive_one}
use Rattle.theory.proofs.Groups.Origins.{Aligned, FitsBlock, Stand, offset, fits_near, fits_same}
use Rattle.theory.proofs.Groups.Grown.{Growth, grown_to, seen_o, size_x}
use Rattle.theory.proofs.Groups.GrownCourses.{grown_courses}
use Rattle.theory.proofs.Groups.GrownLabels.{GrownLabels, renewed, Now, view, block_in, block_out}
use Rattle.theory.proofs.Groups.Realigned.{ClosedLabels, grown_aligned}
use Rattle.theory.proofs.Groups.GrownCuts.{SoonCuts, soon_alike, grown_cuts}
use Rattle.theory.proofs.Groups.Tapping.{Settled}
use Rattle.theory.proofs.Groups.RingStart.{RingClosing, begun}
use Rattle.theory.proofs.Groups.RingLabels.{after as after-of, growth as growth-of, ith_end, labels as labels_of}

ith_one_of : {t s : Pass} {i : ℕ} → Ith t i (s ∷ []) → (i ≡ 0) × (t ≡ s)
ith_one_of here = (refl, refl)
ith_one_of (later j) = absurd (no_ith j)

ith_two : {t s u : Pass} {i : ℕ} → Ith t i (s ∷ u ∷ []) → ((i ≡ 0) × (t ≡ s)) ⊎ ((i ≡ 1) × (t ≡ u))
ith_two here = inl (refl, refl)
ith_two (later j) = let k = ith_one_of j in inr (ap suc k.0, k.1)

module _ (rc : RingClosing) where
  open rc use {es, p, relabellings, m, res, x, y, e, c, cl, face}
  open face.high.ghosts use {shape as h, courses as w}
  open begun rc use {origins as l, aligned as lab, now, block_at, fits_x, fits_y}

  abbrev growth : Growth
  growth = growth-of rc

  abbrev labels : GrownLabels
  labels = labels_of rc

  abbrev after : Marks
  after = after-of rc

  abbrev gx : ℕ
  gx = h.group e

  open grown_to growth use {new, h'}
  open renewed labels use {l'}

  abbrev size₁ : ℕ
  size₁ = size h (length es) gx

  -- where a vertex of the ring stood on the course: x behind all others, y before them
  data Who (v at : ℕ) : Type 0 where
    behind : v ≡ x → at ≡ size₁ → Who v at
    before : v ≡ y → at ≡ 0 → Who v at
    inside : (u : Successive es h v gx) → at ≡ h.place u.hi → Who v at

  record Stood (v : ℕ) : Type 0 where
    at : ℕ
    fits : FitsBlock l (l'.block v) at (label_at after v)
    last : l.origin (l'.block v) ≤ size₁
    who : Who v at

  inside_below : (v : ℕ) (u : Successive es h v gx) → h.place u.hi < size₁
  inside_below v u = place_fits w u.hi gx u.hi_at.inside u.hi_group

  stood : (v a : ℕ) → degree new v ≡ 2 → At new v a → h'.group a ≡ gx → Stood v
  unfolding ith_end
  stood v a two b q = go (view labels v a two b)
    where
      go : Now labels v → Stood v
      go (in_path i t j z f g) = on (ith_two j)
        where
          bl : l'.block v ≡ now
          bl = block_in labels v i t j z

          on : ((i ≡ 0) × (t ≡ record { before = e; at = x; after = length es })) ⊎ ((i ≡ 1) × (t ≡ record { before = length es; at = y; after = c })) → Stood v
          on (inl k) = record {
            at = size₁;
            fits = rw (bl, f, k.0) fits_x;
            last = rw bl block_at.last;
            who = behind (sym z ∙ ap (λ (o : Pass). o.at) k.1) refl;
          }
          on (inr k) = record {
            at = 0;
            fits = rw (bl, f, k.0) fits_y;
            last = rw bl block_at.last;
            who = before (sym z ∙ ap (λ (o : Pass). o.at) k.1) refl;
          }
      go (as_was c' z n f g) = record {
        at = h.place sd.between.hi;
        fits = rw (bl, f) sd.fits;
        last = rw bl (omega (arith, sd.last));
        who = inside sd.between refl;
      }
        where
          b' : At es v a
          b' = old_edge es p v a z b

          bl : l'.block v ≡ l.block v
          bl = block_out labels v n

          g_is : h.group a ≡ gx
          g_is = sym (seen_o growth a _ (group_fresh w (length es) (omega arith) a b'.inside) b'.inside refl).group_is ∙ q

          sd : Stand es m h l v gx
          sd = rw g_is at (lab.stands v a c' b' (rw g_is (w.leaf_open x e cl.x_leaf cl.e_at)))

  same_who : (v z a b : ℕ) → a ≡ b → Who v a → Who z b → v ≡ z
  same_who v z a b q (behind i j) (behind i' j') = i ∙ sym i'
  same_who v z a b q (behind i j) (before i' j') = absurd (omega (arith, q, j, j', face.high.top))
  same_who v z a b q (behind i j) (inside u' j') = absurd (omega (arith, q, j, j', inside_below z u'))
  same_who v z a b q (before i j) (behind i' j') = absurd (omega (arith, q, j, j', face.high.top))
  same_who v z a b q (before i j) (before i' j') = i ∙ sym i'
  same_who v z a b q (before i j) (inside u' j') = absurd (omega (arith, q, j, j', u'.step))
  same_who v z a b q (inside u j) (behind i' j') = absurd (omega (arith, q, j, j', inside_below v u))
  same_who v z a b q (inside u j) (before i' j') = absurd (omega (arith, q, j, j', u.step))
  same_who v z a b q (inside u j) (inside u' j') = successive_one w u u' (sym j ∙ q ∙ j')

  single : (v z a b : ℕ) → degree new v ≡ 2 → degree new z ≡ 2 → At new v a → At new z b → h'.group a ≡ gx → h'.group b ≡ gx → l'.block v ≡ l'.block z → label_at after v ≡ label_at after z → v ≡ z
  single v z a b cv cz av az gv gz bl tg =
      let hv = stood v a cv av gv in
      let hz = stood z b cz az gz in
      same_who v z hv.at hz.at (fits_same l (l'.block v) (l'.block z) _ _ _ _ bl tg hv.fits hz.fits) hv.who hz.who

  at_most : (v : ℕ) (hv : Stood v) → hv.at ≤ size₁
  at_most v hv = go hv.who
    where
      go : Who v hv.at → hv.at ≤ size₁
      go (behind i j) = omega (arith, j)
      go (before i j) = omega (arith, j)
      go (inside u j) = omega (arith, j, inside_below v u)

  size_now : size h' (length new) gx ≡ size₁ + 1
  size_now = omega (arith, size_x growth, size_fresh w (length es) (omega arith))

  -- each label is nearer to its base than the ring has edges
  pub near : (v a : ℕ) → degree new v ≡ 2 → At new v a → h'.group a ≡ gx → offset after l' v + 1 ≤ size h' (length new) gx
  near v a two b q =
      let hv = stood v a two b q in
      let k : offset after l' v ≤ size₁ = fits_near l (l'.block v) hv.at _ size₁ hv.fits (omega (arith, at_most v hv)) (omega (arith, hv.last)) in
      omega (arith, k, size_now)

  closed_labels : ClosedLabels labels
  closed_labels = record {
    single_x = single;
    within_x = λ v a two b q. omega (arith, near v a two b q);
    within_two_x = λ v z a b cv cz av az gv gz bl. omega (arith, near v a cv av gv, near z b cz az gz);
  }

  -- an edge that closes a ring keeps the ghost state, and relabels nothing
  pub ring_settled : SoonCuts es p rc.h₀ → Settled (es ++ (p ∷ [])) (relabellings + 0) res.marks res.blocks
  ring_settled soon = record {
    ghosts = record {
      shape = h';
      courses = grown_courses growth;
      origins = l';
      aligned = subst (λ (o : Marks). Aligned new o res.blocks h' l') (sym cl.marks_is) (grown_aligned labels (λ z. closed_labels));
    };
    cuts = grown_cuts growth (soon_alike es p face.high.alike soon) (λ z r. absurd (not_both _ refl r));
  }
