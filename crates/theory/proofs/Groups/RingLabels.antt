-- An edge that closes a ring: its two ends are labelled, and the others keep their labels.
use mathlib.Core.Path.{◌≡◌, refl, sym, ap, ◌∙◌, subst}
use mathlib.Core.Logic.{◌⊎◌, inl, inr}
use Prim.Native.Nat.{ℕ, zero, suc, ◌<◌}
use native.Mathlib.Omega.{arith}
use native.Mathlib.Decide.{ℕ_discrete}
use mathlib.Core.Bool.{Bool, true, false, not}
use mathlib.Core.List.{List, [], ◌∷◌}
use lib.ListN.{length, set, length-set}
use lib.Seq.{get_or-set_other}
use Rattle.model.specs.Graph.{Pass, degree, ends_at, far}
use Rattle.model.specs.Labels.{Marks, mark}
use Rattle.model.proofs.Basics.Booleans.{not_both}
use Rattle.model.proofs.Walks.Degree.{degree_snoc, ends_at_le, no_end, two_ends, zero_or_one}
use Rattle.model.proofs.Walks.Turn.{At, OneEdge, one_edge_lem}
use Rattle.model.proofs.Walks.Joins.{other_end}
use Rattle.model.proofs.Walks.NewEdge.{at_old, last_at, Which, is_new, is_old, which}
use Rattle.model.proofs.Walks.Places.{Ith, here, later, no_ith, ith_split, InPath}
use Rattle.model.proofs.Labels.Following.{label_at, low_at, low_of, set_at}
use Rattle.theory.proofs.Labels.WearsAfter.{WearsAfter, in_path, as_was}
use Rattle.theory.proofs.Labels.Closed.{close_path}
use Rattle.theory.proofs.Groups.Seams.{Seam, seam_ring}
use Rattle.theory.proofs.Groups.Grown.{Growth, grown_to, x_or_y}
use Rattle.theory.proofs.Groups.GrownEnds.{end_group}
use Rattle.theory.proofs.Groups.GrownLabels.{GrownLabels}
use Rattle.theory.proofs.Groups.RingStart.{RingClosing, begun, one_group}

-- the labels of the two
unfoldable pub ith_end : ℕ → ℕ → ℕ → ℕ
ith_end tx ty zero = tx
ith_end tx ty (suc i) = ty

-- the low edge of the second, by the direction of the first
low_against : (upx upy : Bool) (n y c : ℕ) → upy ≡ not upx → low_of upy (record { before = c; at = y; after = n }) ≡ low_of upx (record { before = n; at = y; after = c })
unfolding low_of
low_against true true n y c q = absurd (not_both true refl q)
low_against true false n y c q = refl
low_against false true n y c q = refl
low_against false false n y c q = absurd (not_both false q refl)

module _ (rc : RingClosing) where
  open rc use {es, p, pr, d, relabellings, m, lg, res, x, y, e, c, cl, face}
  open face.high.ghosts use {shape as h, courses as w}
  open begun rc use {origins as l, aligned as lab, now, block_at, fits_x, fits_y, beside_x, beside_y, against}

  abbrev pub s : Seam es p h (h.group e) (length es) x y 0 false true
  s = seam_ring es p pr w x y cl.x_end cl.y_end cl.x_y e cl.x_leaf cl.e_at face.high.hi face.high.top c cl.y_leaf cl.c_at face.lo face.bot (one_group rc)

  -- the groups after the landing
  abbrev pub growth : Growth
  growth = record { es = es; p = p; pr = pr; d = d; relabellings = relabellings; h = h; w = w; gx = h.group e; gy = length es; x = x; y = y; k = 0; b = false; r = true; s = s }

  open grown_to growth use {new, h'}

  abbrev pub gx : ℕ
  gx = h.group e

  abbrev pub path : List Pass
  path = close_path es x y e c

  -- the marks after it
  abbrev pub after : Marks
  after = mark y cl.ty (low_of cl.upy (record { before = c; at = y; after = length es })) (mark x cl.tx (low_of cl.upx (record { before = e; at = x; after = length es })) m)

  x_in : InPath path x
  x_in = record { index = 0; pass_is = _; ith = here; at_is = refl }

  y_in : InPath path y
  y_in = record { index = 1; pass_is = _; ith = later here; at_is = refl }

  an_end : (v : ℕ) → (v ≡ x) ⊎ (v ≡ y) → InPath path v
  an_end v (inl q) = rw q x_in
  an_end v (inr q) = rw q y_in

  -- of the path are x and y
  pub path_cases : (i : ℕ) (t : Pass) → Ith t i path → (t.at ≡ x) ⊎ (t.at ≡ y)
  path_cases i t j = go (ith_split j)
    where
      rest : (t ≡ record { before = length es; at = y; after = c }) ⊎ ((n : ℕ) × Ith t n []) → (t.at ≡ x) ⊎ (t.at ≡ y)
      rest (inl q) = inr (ap (λ (o : Pass). o.at) q)
      rest (inr n) = absurd (no_ith n.1)

      go : (t ≡ record { before = e; at = x; after = length es }) ⊎ ((n : ℕ) × Ith t n (record { before = length es; at = y; after = c } ∷ [])) → (t.at ≡ x) ⊎ (t.at ≡ y)
      go (inl q) = inl (ap (λ (o : Pass). o.at) q)
      go (inr n) = rest (ith_split n.1)

  leaf_of : (v : ℕ) → (v ≡ x) ⊎ (v ≡ y) → degree es v ≡ 1
  leaf_of v (inl q) = rw q cl.x_leaf
  leaf_of v (inr q) = rw q cl.y_leaf

  pub path_group : (i : ℕ) (t : Pass) (a : ℕ) → Ith t i path → At new t.at a → h'.group a ≡ gx
  path_group i t a j b = end_group growth t.at a (leaf_of t.at (path_cases i t j)) (path_cases i t j) b

  -- what shares an edge with x or y is the other, or the neighbour of one
  pub beside : (v u a : ℕ) → (v ≡ x) ⊎ (v ≡ y) → degree new u ≡ 2 → At new v a → At new u a → InPath path u ⊎ (l.block u ≡ now)
  beside v u a o two av au = go (which es p a av.inside) (zero_or_one (ends_at u p) (ends_at_le u p d))
    where
      near_x : At es u e → ends_at u p ≡ 0 → degree es u ≡ 2 → l.block u ≡ now
      near_x b z k =
          let u_is : u ≡ far es e x = other_end es e x u pr cl.e_at b (λ q. let i : ends_at u p ≡ 1 = rw q cl.x_end in omega arith) in
          rw u_is (beside_x (rw u_is at k))

      near_y : At es u c → ends_at u p ≡ 0 → degree es u ≡ 2 → l.block u ≡ now
      near_y b z k =
          let u_is : u ≡ far es c y = other_end es c y u pr cl.c_at b (λ q. let i : ends_at u p ≡ 1 = rw q cl.y_end in omega arith) in
          rw u_is (beside_y (rw u_is at k))

      old : (v ≡ x) ⊎ (v ≡ y) → At es v a → At es u a → ends_at u p ≡ 0 → degree es u ≡ 2 → l.block u ≡ now
      old (inl q) b b' z k =
          let one : OneEdge es x = one_edge_lem es x pr cl.x_leaf in
          let a_is : a ≡ e = one.only a (rw q at b) ∙ sym (one.only e cl.e_at) in
          near_x (rw a_is at b') z k
      old (inr q) b b' z k =
          let one : OneEdge es y = one_edge_lem es y pr cl.y_leaf in
          let a_is : a ≡ c = one.only a (rw q at b) ∙ sym (one.only c cl.c_at) in
          near_y (rw a_is at b') z k

      go : Which es p a → (ends_at u p ≡ 0) ⊎ (ends_at u p ≡ 1) → InPath path u ⊎ (l.block u ≡ now)
      go i (inr z) = inl (an_end u (x_or_y growth u z))
      go (is_new i) (inl z) = absurd (let b : At new u (length es) = rw i at au in omega (arith, last_at es p b))
      go (is_old i) (inl z) = inr (old o (at_old es p i av) (at_old es p i au) z (omega (arith, degree_snoc es p u)))

  -- what each wears
  pub worn : (v a : ℕ) → degree new v ≡ 2 → At new v a → WearsAfter es p m cl.upx (ith_end cl.tx cl.ty) path after v
  unfolding mark label_at low_at ith_end
  worn v a two b = go (ℕ_discrete v y) (ℕ_discrete v x)
    where
      long : v < length m.labels
      long = lg.long v a b

      long_low : v < length m.lows
      long_low = omega (arith, long, lg.even)

      lx : ℕ
      lx = low_of cl.upx (record { before = e; at = x; after = length es })

      ly : ℕ
      ly = low_of cl.upy (record { before = c; at = y; after = length es })

      go : Dec (v ≡ y) → Dec (v ≡ x) → WearsAfter es p m cl.upx (ith_end cl.tx cl.ty) path after v
      go (yes q) z =
          in_path 1 (record { before = length es; at = y; after = c }) (later here) (sym q)
          (set_at (set m.labels x cl.tx) y v cl.ty q (omega (arith, long, length-set m.labels x cl.tx)))
          (set_at (set m.lows x lx) y v ly q (omega (arith, long_low, length-set m.lows x lx)) ∙ low_against cl.upx cl.upy (length es) y c against)
      go (no q) (yes z) =
          in_path 0 (record { before = e; at = x; after = length es }) here (sym z)
          (get_or-set_other (set m.labels x cl.tx) y v cl.ty 0 q ∙ set_at m.labels x v cl.tx z long)
          (get_or-set_other (set m.lows x lx) y v ly 0 q ∙ set_at m.lows x v lx z long_low)
      go (no q) (no z) =
          let n : ends_at v p ≡ 0 = no_end p v d (λ o. neither (two_ends p x y v cl.x_end cl.y_end cl.x_y o)) in
          as_was (omega (arith, degree_snoc es p v)) n (λ i t j k. neither (subst (λ (o : ℕ). (o ≡ x) ⊎ (o ≡ y)) k (path_cases i t j)))
          (get_or-set_other (set m.labels x cl.tx) y v cl.ty 0 q ∙ get_or-set_other m.labels x v cl.tx 0 z)
          (get_or-set_other (set m.lows x lx) y v ly 0 q ∙ get_or-set_other m.lows x v lx 0 z)
        where
          neither : (v ≡ x) ⊎ (v ≡ y) → ⊥
          neither (inl k) = z k
          neither (inr k) = q k

  -- the labels after the landing
  abbrev pub labels : GrownLabels
  labels = record {
    it = growth;
    m = m;
    blocks' = res.blocks;
    l = l;
    lab = lab;
    path = path;
    up = cl.upx;
    ith = ith_end cl.tx cl.ty;
    now = now;
    start = 0;
    path_group = path_group;
    path_beside = λ i t u a j two b b'. beside t.at u a (path_cases i t j) two b b';
    path_spot = λ z. absurd (not_both _ z refl);
    path_block_lem = λ i t j. block_at;
    path_fits = λ z. absurd (not_both _ z refl);
    marks_after = after;
    worn = worn;
  }
