-- The path of a landing meets what the ghost state of the labels needs of it.
use mathlib.Core.Path.{◌≡◌, refl, sym, ◌∙◌, subst}
use mathlib.Core.Logic.{◌≢◌, ◌⊎◌, inl, inr}
use Prim.Native.Nat.{ℕ, suc, ◌+◌, ◌≤◌, ◌<◌}
use native.Mathlib.Omega.{arith}
use mathlib.Core.Bool.{Bool, true, false}
use mathlib.Core.List.{List, [], ◌∷◌, ◌++◌}
use lib.ListN.{length}
use Rattle.model.specs.Graph.{Edge, Pass, degree, far}
use Rattle.model.specs.Labels.{Labelling, Marks, base}
use Rattle.model.proofs.Walks.Degree.{Proper, proper_snoc}
use Rattle.model.proofs.Walks.Turn.{At}
use Rattle.model.proofs.Walks.Snoc.{far_old}
use Rattle.model.proofs.Walks.NewEdge.{length_new, at_new}
use Rattle.model.proofs.Walks.Once.{Nearby, itself, ahead, behind, at_start, at_end, nearby}
use Rattle.model.proofs.Walks.Places.{Ith, InPath, ith_below}
use Rattle.model.proofs.Labels.Following.{following, ith_label}
use Rattle.theory.proofs.Labels.Laid.{Laid}
use Rattle.theory.proofs.Labels.WearsAfter.{LongEnough, wears_after}
use Rattle.theory.proofs.Groups.Shape.{Shape, successive_or}
use Rattle.theory.proofs.Groups.Climb.{Spot, spot_successive, Rises, rises_ith, Climb, climb}
use Rattle.theory.proofs.Groups.Ghosts.{High}
use Rattle.theory.proofs.Groups.Seams.{Seam}
use Rattle.theory.proofs.Groups.Grown.{Growth, grown_to, seen_o, old_end, open_gx}
use Rattle.theory.proofs.Groups.GrownCourses.{grown_courses}
use Rattle.theory.proofs.Groups.Origins.{Fits, FitsBlock}
use Rattle.theory.proofs.Groups.Blocks.{Start, start_of}
use Rattle.theory.proofs.Groups.GrownLabels.{GrownLabels}

-- the label of the i-th of a path fits the place i further on
pub fits_next : (up : Bool) (q b start label i : ℕ) → 1 ≤ q → suc (start + i) ≤ b → Fits up q b start label → Fits up q b (suc (start + i)) (ith_label up label i)
unfolding ith_label
fits_next true q b start label i f l e = omega (arith, e)
fits_next false q b start label i f l e = omega (arith, e, f, l)

-- a base is at least 8,192
pub base_least : (k : ℕ) → 1 ≤ k → 8192 ≤ base k
unfolding base
base_least k l = omega arith

-- A landing that labels a path, where x stands at the high end of its group; gy, k and b are as in `Growth`.
pub record Laying : Type 0 where
  pub es : List Edge
  pub p : Edge
  pub pr : Proper es
  pub d : p.first ≢ p.second
  pub relabellings : ℕ
  pub blocks : ℕ
  pub m : Marks
  pub lg : LongEnough (es ++ (p ∷ [])) m
  pub res : Labelling
  pub x : ℕ
  pub y : ℕ
  pub e : ℕ
  pub path : List Pass
  pub la : Laid es p blocks m res x y e path
  pub h₀ : Shape
  pub high : High es relabellings m blocks h₀ x e
  pub gy : ℕ
  pub k : ℕ
  pub b : Bool
  pub s : Seam es p high.ghosts.shape (high.ghosts.shape.group e) gy x y k b false
  pub fewer : high.ghosts.shape.place e + length path ≤ 8192

module _ (ly : Laying) where
  open ly use {es, p, pr, d, relabellings, m, lg, res, x, y, e, path, la, high, gy, k, b, s, fewer}
  open high.ghosts use {shape as h, courses as w, aligned}

  -- where the path begins
  pub begins : Start es p m h x e la.up la.label res.blocks
  begins = start_of es p pr w aligned x e la.x_leaf la.e_at high.hi high.top la.up la.label res.blocks la.by

  -- the groups after the landing
  abbrev pub growth : Growth
  growth = record { es = es; p = p; pr = pr; d = d; relabellings = relabellings; h = h; w = w; gx = h.group e; gy = gy; x = x; y = y; k = k; b = b; r = false; s = s }

  open growth use {gx}
  open grown_to growth use {new, h'}
  open begins use {origins, now, block_at, fits}

  e_in : e < length es
  e_in = la.e_at.inside

  seen_e : (h'.group e ≡ gx) × (h'.place e ≡ h.place e)
  seen_e = let o = seen_o growth e gx s.differ e_in refl in (o.group_is, o.place_is)

  -- along the open course
  pub spots : b ≡ true → (i : ℕ) (t : Pass) → Ith t i path → Spot new h' gx (h.place e + i) t
  spots z i t j =
      let c : Climb new h' e path la.onto = climb new (proper_snoc es p pr d) (grown_courses growth) (omega (arith, e_in, length_new es p)) (old_end growth e e_in ∙ high.hi)
      (rw seen_e.0 (open_gx growth ∙ z)) la.trail in
      let r : Rises new h' gx (h.place e) path = subst (λ (q : ℕ). Rises new h' gx q path) seen_e.1 (subst (λ (q : ℕ). Rises new h' q (h'.place e) path) seen_e.0 c.path) in
      rises_ith (h.place e) path r i t j

  pub besides : (i : ℕ) (t : Pass) (v c : ℕ) → Ith t i path → degree new v ≡ 2 → At new t.at c → At new v c → InPath path v ⊎ (origins.block v ≡ now)
  besides i t v c j two a a' = go (nearby new (proper_snoc es p pr d) (at_new es p la.e_at) la.trail i t j c v a a')
    where
      go : Nearby path e (far new e x) la.to i c v t → InPath path v ⊎ (origins.block v ≡ now)
      go (itself q) = inl (record { index = i; pass_is = t; ith = j; at_is = sym q })
      go (ahead o j' q r k) = inl (record { index = suc i; pass_is = o; ith = j'; at_is = q })
      go (behind n o g j' q r k) = inl (record { index = n; pass_is = o; ith = j'; at_is = q })
      go (at_start g q r k) = let v_is : v ≡ far es e x = q ∙ far_old es p e x e_in in inr (rw v_is (begins.beside (rw v_is at two)))
      go (at_end q) = absurd (la.stops (rw q at two))

  -- every label of the path fits its place
  pub path_fits : (i : ℕ) (t : Pass) → Ith t i path → FitsBlock origins now (suc (h.place e + i)) (ith_label la.up la.label i)
  path_fits i t j =
      rw block_at.rising_is (fits_next la.up (origins.origin now) (base now) (h.place e) la.label i block_at.first
      (omega (arith, ith_below j, fewer, base_least now block_at.least)) (rw block_at.rising_is at fits))

  -- all edges at the path lie in the group
  abbrev pub InGroup : Type 0
  InGroup = (i : ℕ) (t : Pass) (c : ℕ) → Ith t i path → At new t.at c → h'.group c ≡ gx

  -- the labels after the landing, where all of the path is in the group
  abbrev pub grown_labels : InGroup → GrownLabels
  grown_labels groups = record {
    it = growth;
    m = m;
    blocks' = res.blocks;
    l = origins;
    lab = begins.aligned;
    path = path;
    up = la.up;
    ith = ith_label la.up la.label;
    now = now;
    start = h.place e;
    path_group = groups;
    path_beside = besides;
    path_spot = spots;
    path_block_lem = λ i t j. block_at;
    path_fits = λ z. path_fits;
    marks_after = following la.up la.label path la.m';
    worn = wears_after es p d m la.m' la.bare la.up la.label path lg la.has;
  }

  -- .. as they do along an open course
  pub in_open : b ≡ true → InGroup
  unfolding spot_successive
  in_open z i t c j a = go (successive_or new h' t.at gx c (proper_snoc es p pr d) sp.regular (spot_successive refl sp) a)
    where
      sp : Spot new h' gx (h.place e + i) t
      sp = spots z i t j

      go : (c ≡ t.before) ⊎ (c ≡ t.after) → h'.group c ≡ gx
      go (inl q) = rw q sp.before_group
      go (inr q) = rw q sp.after_group
