-- An edge that closes a group on itself: labels of one block stay apart, by the places on the course that was open until now.
use mathlib.Core.Path.{◌≡◌, refl, sym, ap, ◌∙◌, subst}
use mathlib.Core.Logic.{◌⊎◌, inl, inr}
use Prim.Native.Nat.{ℕ, suc, ◌+◌, ◌≤◌, ◌<◌}
use native.Mathlib.Omega.{arith}
use mathlib.Core.List.{List, ◌∷◌}
use lib.ListN.{length}
use Rattle.model.specs.Graph.{Pass, degree, ends_at}
use Rattle.model.specs.Labels.{inwards}
use Rattle.model.proofs.Walks.Degree.{regular_no_end}
use Rattle.model.proofs.Walks.Turn.{At}
use Rattle.theory.proofs.Groups.Shape.{size, Successive, group_fresh, place_fits, successive_one}
use Rattle.theory.proofs.Groups.Climb.{Spot, rises_ith, inwards_climb}
use Rattle.model.proofs.Walks.NewEdge.{old_edge}
use Rattle.theory.proofs.Groups.Grown.{grown_to, seen_o}
use Rattle.theory.proofs.Groups.GrownEnds.{end_group}
use Rattle.model.proofs.Walks.Places.{Ith, ith_one, ith_split, Off}
use Rattle.model.proofs.Labels.Following.{ith_label, label_at}
use Rattle.theory.proofs.Groups.Origins.{Stand, FitsBlock, fits_same}
use Rattle.theory.proofs.Groups.Laying.{Laying, begins, growth, path_fits, InGroup, grown_labels}
use Rattle.theory.proofs.Groups.GrownLabels.{GrownLabels, renewed, Now, view, block_in, block_out}
use Rattle.theory.proofs.Labels.WearsAfter.{in_path, as_was}
use Rattle.theory.proofs.Labels.Laid.{merge_path}
use Rattle.theory.proofs.Labels.Inwards.{inward, trail_regular}

-- A landing that joins the two leaves x and y of one group: e and c are their edges, at the high and at the low end of the course, and
-- the chain of y, which has no more regular vertices, gets new labels.
pub record Closing : Type 0 where
  pub ly : Laying
  pub c : ℕ
  pub path_is : ly.path ≡ merge_path ly.es ly.x ly.y ly.e c
  pub cy : degree ly.es ly.y ≡ 1
  pub ac : At ly.es ly.y c
  pub lo : ly.high.ghosts.shape.low c ≡ ly.y
  pub bot : ly.high.ghosts.shape.place c ≡ 0
  pub eq : ly.high.ghosts.shape.group c ≡ ly.high.ghosts.shape.group ly.e
  pub none_after : length ly.es ≤ ly.gy
  pub le : length (inwards ly.es ly.y) ≤ length (inwards ly.es ly.x)

module _ (jo : Closing) where
  open jo use {ly, c, path_is, cy, ac, lo, eq, none_after}
  open ly use {es, p, pr, d, m, x, y, e, path, la, high}
  open high.ghosts use {shape as h, courses as w}
  open growth ly use {gx, gy}
  open grown_to (growth ly) use {new, h'}
  open begins ly use {origins as l, aligned as lab, now, block_at}

  -- the new edge meets no regular vertex
  pub missed : (v : ℕ) → degree es v ≡ 2 → ends_at v p ≡ 0
  missed v q = regular_no_end es p x y v d la.x_end la.y_end la.x_y la.x_leaf cy q

  -- all of the path is in the group
  group_y : (i : ℕ) (t : Pass) (a : ℕ) → Ith t i (inwards es y) → At new t.at a → h'.group a ≡ gx
  group_y i t a j b =
      let two : degree es t.at ≡ 2 = trail_regular (inward es pr y c cy ac).trail i t j in
      let b' : At es t.at a = old_edge es p t.at a (missed t.at two) b in
      let sp : Spot es h (h.group c) (h.place c + i) t = rises_ith (h.place c) (inwards es y) (inwards_climb es pr w y c cy ac lo).path i t j in
      let g : h.group a ≡ gx = sym (lab.owned t.at a two b') ∙ lab.owned t.at t.before two sp.before_at ∙ sp.before_group ∙ eq in
      (seen_o (growth ly) a gx ly.s.differ b'.inside g).group_is

  -- every vertex of the path lies in the group
  pub groups : InGroup ly
  groups i t a j b = go (ith_split (subst (λ (ss : List Pass). Ith t i ss) path_is j))
    where
      rest : (t ≡ record { before = length es; at = y; after = c }) ⊎ ((n : ℕ) × Ith t n (inwards es y)) → h'.group a ≡ gx
      rest (inl q) = end_group (growth ly) t.at a (rw q cy) (inr (ap (λ (o : Pass). o.at) q)) b
      rest (inr n) = group_y n.0 t a n.1 b

      go : (t ≡ record { before = e; at = x; after = length es }) ⊎ ((n : ℕ) × Ith t n (record { before = length es; at = y; after = c } ∷ inwards es y)) → h'.group a ≡ gx
      go (inl q) = end_group (growth ly) t.at a (rw q la.x_leaf) (inl (ap (λ (o : Pass). o.at) q)) b
      go (inr n) = rest (ith_split n.1)

  -- the labels after the landing
  abbrev pub closed : GrownLabels
  closed = grown_labels ly groups

  -- the size of the group before it
  abbrev pub size₁ : ℕ
  size₁ = size h (length es) gx

  open renewed closed use {l', marks_after}

  -- where a regular vertex of the group stood while the course was open: on the path, or where it was before
  pub data Who (v at : ℕ) : Type 0 where
    of_path : (i : ℕ) (t : Pass) → Ith t i path → t.at ≡ v → at ≡ size₁ + i → l'.block v ≡ now → Who v at
    of_old : (u : Successive es h v gx) → at ≡ h.place u.hi → Off path v → l.origin (l'.block v) < size₁ → l'.block v ≡ l.block v → Who v at

  -- .. and its label, by that place
  pub record Stood (v : ℕ) : Type 0 where
    pub at : ℕ
    pub fits : FitsBlock l (l'.block v) at (label_at marks_after v)
    pub first : 1 ≤ l.origin (l'.block v)
    pub last : l.origin (l'.block v) ≤ size₁
    pub who : Who v at

  -- every regular vertex of the group stood somewhere on the open course
  pub stood : (v a : ℕ) → degree new v ≡ 2 → At new v a → h'.group a ≡ gx → Stood v
  stood v a two b q = go (view closed v a two b)
    where
      go : Now closed v → Stood v
      go (in_path i t j z f g) =
          let bl = block_in closed v i t j z in
          record {
            at = size₁ + i;
            fits = rw (bl, f) (subst (λ (n : ℕ). FitsBlock l now n (ith_label la.up la.label i)) (let n : suc (h.place e + i) ≡ size₁ + i = omega (arith, high.top) in n) (path_fits ly i t j));
            first = rw bl block_at.first;
            last = rw bl block_at.last;
            who = of_path i t j z refl bl;
          }
      go (as_was c' z n f g) = record {
        at = h.place sd.between.hi;
        fits = rw (bl, f) sd.fits;
        first = rw bl sd.first;
        last = rw bl (omega (arith, sd.last));
        who = of_old sd.between refl n (rw bl sd.last) bl;
      }
        where
          b' : At es v a
          b' = old_edge es p v a z b

          bl : l'.block v ≡ l.block v
          bl = block_out closed v n

          -- no edge was in the group after
          g_is : h.group a ≡ gx
          g_is = sym (seen_o (growth ly) a _ (group_fresh w gy none_after a b'.inside) b'.inside refl).group_is ∙ q

          sd : Stand es m h l v gx
          sd = rw g_is at (lab.stands v a c' b' (rw g_is (w.leaf_open x e la.x_leaf la.e_at)))

  -- an old regular vertex stands below the path
  pub old_below : (v : ℕ) (u : Successive es h v gx) → h.place u.hi < size₁
  old_below v u = place_fits w u.hi gx u.hi_at.inside u.hi_group

  same_who : (v z a b : ℕ) → a ≡ b → Who v a → Who z b → v ≡ z
  same_who v z a b q (of_path i t j f g bl) (of_path i' t' j' f' g' bl') =
      let n : i ≡ i' = omega (arith, q, g, g') in
      let t_is : t ≡ t' = ith_one j (subst (λ (o : ℕ). Ith t' o path) (sym n) j') in
      sym f ∙ ap (λ (o : Pass). o.at) t_is ∙ f'
  same_who v z a b q (of_path i t j f g bl) (of_old u' g' n' o' bl') = absurd (omega (arith, q, g, g', old_below z u'))
  same_who v z a b q (of_old u g n o bl) (of_path i' t' j' f' g' bl') = absurd (omega (arith, q, g, g', old_below v u))
  same_who v z a b q (of_old u g n o bl) (of_old u' g' n' o' bl') = successive_one w u u' (sym g ∙ q ∙ g')

  -- two vertices of the group with one block and one label are one vertex
  pub single : (v z a b : ℕ) → degree new v ≡ 2 → degree new z ≡ 2 → At new v a → At new z b → h'.group a ≡ gx → h'.group b ≡ gx → l'.block v ≡ l'.block z → label_at marks_after v ≡ label_at marks_after z → v ≡ z
  single v z a b cv cz av az gv gz bl tg =
      let hv = stood v a cv av gv in
      let hz = stood z b cz az gz in
      same_who v z hv.at hz.at (fits_same l (l'.block v) (l'.block z) _ _ _ _ bl tg hv.fits hz.fits) hv.who hz.who
