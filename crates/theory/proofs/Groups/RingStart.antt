-- An edge that closes a ring: the block of its two ends, and that their labels stand before and behind all others of the course.
use mathlib.Core.Path.{◌≡◌, refl, sym, ap, ◌∙◌, subst}
use mathlib.Core.Logic.{◌≢◌, ◌⊎◌, inl, inr}
use Prim.Native.Nat.{ℕ, suc, ◌+◌, ◌≤◌, ◌<◌}
use native.Mathlib.Omega.{arith}
use mathlib.Core.Bool.{Bool, true, false, not}
use mathlib.Core.List.{List, [], ◌∷◌, ◌++◌}
use lib.ListN.{length, get_or}
use Rattle.model.specs.Graph.{Edge, degree, ends_at, far}
use Rattle.model.specs.Labels.{Labelling, Marks, base}
use Rattle.model.proofs.Walks.Degree.{Proper, degree_snoc, regular_no_end}
use Rattle.model.proofs.Walks.Turn.{At, OneEdge, one_edge_lem}
use Rattle.model.proofs.Walks.Joins.{across, far_ne}
use Rattle.model.proofs.Walks.Trail.{Trail, trail_back, backwards}
use Rattle.theory.proofs.Labels.Inwards.{Last, nothing, passed, trail_last}
use Rattle.model.proofs.Labels.Following.{ith_label, label_at, low_at}
use Rattle.theory.proofs.Labels.Laid.{near}
use Rattle.theory.proofs.Labels.WearsAfter.{LongEnough}
use Rattle.theory.proofs.Labels.Closed.{Closed, Direction, EndLabels, born, from_neighbours}
use Rattle.theory.proofs.Groups.Shape.{Shape, size, size_most, pick_yes, successive_differ, successive_or}
use Rattle.theory.proofs.Groups.Climb.{Climb, climb}
use Rattle.theory.proofs.Groups.Origins.{Origins, Aligned, BlockAt, Fits, FitsBlock, LowIs, Stand}
use Rattle.theory.proofs.Groups.Ghosts.{Facing}
use Rattle.theory.proofs.Groups.Blocks.{Start, start_of, with_block, more_blocks}
use Rattle.theory.proofs.Groups.Laying.{base_least, fits_next}
use Rattle.theory.proofs.Groups.ClosingGaps.{one_block}

-- beside a vertex at the low end of a course one goes against the way of its block
other_way : (up r : Bool) (lo hi low c : ℕ) → lo ≢ hi → c ≡ lo → Direction up low c → LowIs r lo hi low → up ≡ not r
other_way true true lo hi low c n q k lw = absurd (k (lw ∙ sym q))
other_way false true lo hi low c n q k lw = refl
other_way true false lo hi low c n q k lw = refl
other_way false false lo hi low c n q k lw = absurd (n (sym q ∙ sym k ∙ lw))

-- the label before all others of a course
fits_before : (r : Bool) (q b label : ℕ) → q ≤ b → Fits r q b 1 label → Fits r q b 0 (ith_label (not r) label 0)
unfolding ith_label
fits_before true q b label l e = omega (arith, e, l)
fits_before false q b label l e = omega (arith, e, l)

-- A landing that closes a ring: the leaves x and y of one chain, turned so that x stands at the high end of the course and y at the low one.
pub record RingClosing : Type 0 where
  pub es : List Edge
  pub p : Edge
  pub pr : Proper es
  pub d : p.first ≢ p.second
  pub room : length es < 4096
  pub relabellings : ℕ
  pub blocks : ℕ
  pub m : Marks
  pub lg : LongEnough (es ++ (p ∷ [])) m
  pub res : Labelling
  pub x : ℕ
  pub y : ℕ
  pub e : ℕ
  pub c : ℕ
  pub cl : Closed es p blocks m res x y e c
  pub h₀ : Shape
  pub face : Facing es relabellings m blocks h₀ x e y c

-- the block of the two ends
pub record Begun (es : List Edge) (m : Marks) (h : Shape) (x y e c : ℕ) (upx upy : Bool) (tx ty blocks' : ℕ) : Type 0 where
  pub origins : Origins
  pub aligned : Aligned es m blocks' h origins
  pub now : ℕ
  pub block_at : BlockAt origins blocks' (h.group e) (size h (length es) (h.group e)) upx now
  pub fits_x : FitsBlock origins now (size h (length es) (h.group e)) tx
  pub fits_y : FitsBlock origins now 0 ty
  pub beside_x : degree es (far es e x) ≡ 2 → origins.block (far es e x) ≡ now
  pub beside_y : degree es (far es c y) ≡ 2 → origins.block (far es c y) ≡ now
  pub against : upy ≡ not upx

module _ (rc : RingClosing) where
  open rc use {es, p, pr, d, room, relabellings, blocks, m, res, x, y, e, c, cl, face}
  open face.high.ghosts use {shape as h, courses as w, origins as l, aligned as lab}

  abbrev g : ℕ
  g = h.group e

  abbrev s : ℕ
  s = size h (length es) g

  -- from y the course rises to x
  rise : Climb es h c (backwards cl.passes) e
  rise =
      let u : Trail es c (far es c y) (backwards cl.passes) e x = subst (λ (z : ℕ). Trail es c (far es c y) (backwards cl.passes) e z) (across es e x pr cl.e_at).again
      (trail_back pr (across es e x pr cl.e_at).at cl.trail) in
      climb es pr w cl.c_at.inside (ap (λ (z : ℕ). far es c z) face.lo) (w.leaf_open y c cl.y_leaf cl.c_at) u

  -- the two leaves are of one group
  pub one_group : h.group c ≡ h.group e
  one_group = sym rise.same_group

  not_end : (v : ℕ) → degree es v ≡ 2 → ends_at v p ≡ 0
  not_end v two = regular_no_end es p x y v d cl.x_end cl.y_end cl.x_y cl.x_leaf cl.y_leaf two

  begun_born : (upx upy : Bool) (tx ty blocks' : ℕ) → far es e x ≡ y → upx ≡ false → upy ≡ true → tx ≡ base (blocks + 1) → ty ≡ base (blocks + 1) + 1 → blocks' ≡ blocks + 1
      → Begun es m h x y e c upx upy tx ty blocks'
  begun_born upx upy tx ty blocks' fy ux uy et ey eb =
      let one : OneEdge es y = one_edge_lem es y pr cl.y_leaf in
      let e_is : e ≡ c = one.only e (rw fy at (across es e x pr cl.e_at).at) ∙ sym (one.only c cl.c_at) in
      let s_is : s ≡ 1 = omega (arith, face.high.top, face.bot, ap h.place e_is) in
      let rises = pick_yes (blocks + 1) (blocks + 1) false (l.rising (blocks + 1)) refl in
      let origin = pick_yes (blocks + 1) (blocks + 1) 1 (l.origin (blocks + 1)) refl in
      rw (ux, uy, et, ey, eb) (record {
        origins = with_block l (blocks + 1) g 1 false;
        aligned = more_blocks es m blocks h l lab g 1 false;
        now = blocks + 1;
        block_at = record {
          least = omega arith;
          most = omega arith;
          owner_is = pick_yes (blocks + 1) (blocks + 1) g _ refl;
          rising_is = rises;
          first = rw origin (omega arith);
          last = rw origin (omega (arith, s_is));
        };
        fits_x = rw (rises, origin, s_is) (omega arith);
        fits_y = rw (rises, origin) (omega arith);
        beside_x = λ two. absurd (let z : degree es y ≡ 2 = rw fy at two in omega (arith, cl.y_leaf));
        beside_y = λ two. absurd (let fx : far es c y ≡ x = rw (← e_is, ← fy) (across es e x pr cl.e_at).again in let z : degree es x ≡ 2 = rw fx at two in omega (arith, cl.x_leaf));
        against = refl;
      })

  module _ (upx upy : Bool) (tx ty blocks' : ℕ) (cx : degree es (far es e x) ≡ 2) (cy : degree es (far es c y) ≡ 2)
      (tx-is : tx ≡ ith_label upx (get_or m.labels (far es e x) 0) 0) (dx : Direction upx (get_or m.lows (far es e x) 0) e)
      (ty-is : ty ≡ ith_label upy (get_or m.labels (far es c y) 0) 0) (dy : Direction upy (get_or m.lows (far es c y) 0) c) (eb : blocks' ≡ blocks) where
    st : Start es p m h x e upx (get_or m.labels (far es e x) 0) blocks'
    st = start_of es p pr w lab x e cl.x_leaf cl.e_at face.high.hi face.high.top upx _ blocks' (near cx (not_end (far es e x) cx) refl eb dx)

    vx : ℕ
    vx = far es e x

    vy : ℕ
    vy = far es c y

    ax : At es vx e
    unfolding vx
    ax = (across es e x pr cl.e_at).at

    ay : At es vy c
    unfolding vy
    ay = (across es c y pr cl.c_at).at

    now_x : st.origins.block vx ≡ st.now
    unfolding vx
    now_x = st.beside (omega (arith, degree_snoc es p (far es e x), not_end (far es e x) cx))

    now_y : st.origins.block vy ≡ st.now
    unfolding vx vy
    now_y = go (trail_last pr ax cl.trail)
      where
        go : Last es e vx cl.passes c y → st.origins.block vy ≡ st.now
        go (nothing i j) = absurd (let z : degree es y ≡ 2 = rw j cx in omega (arith, cl.y_leaf))
        go (passed f) = sym (ap st.origins.block f.at_is) ∙ one_block es pr st.aligned ax cl.trail f.index f.pass_is f.ith ∙ now_x

    sd : Stand es m h st.origins vy (h.group c)
    unfolding vy
    sd = st.aligned.stands vy c cy ay (w.leaf_open y c cl.y_leaf cl.c_at)

    lo_is : c ≡ sd.between.lo
    unfolding vy
    lo_is = go (successive_or es h vy (h.group c) c pr cy sd.between ay)
      where
        go : (c ≡ sd.between.lo) ⊎ (c ≡ sd.between.hi) → c ≡ sd.between.lo
        go (inl q) = q
        go (inr q) = absurd (far_ne es c y pr cl.c_at (sym sd.between.hi_end ∙ ap h.low (sym q) ∙ face.lo))

    way : upy ≡ not (st.origins.rising (st.origins.block vy))
    unfolding vy low_at
    way = other_way upy (st.origins.rising (st.origins.block vy)) sd.between.lo sd.between.hi _ c (successive_differ sd.between) lo_is dy sd.low_is

    up_is : st.origins.rising st.now ≡ upx
    up_is = st.block_at.rising_is

    way_x : upy ≡ not upx
    way_x = way ∙ ap (λ (k : ℕ). not (st.origins.rising k)) now_y ∙ ap not up_is

    few : size h (length es) g ≤ 8192
    few = omega (arith, size_most h (length es) g, room)

    base_many : 8192 ≤ base st.now
    base_many = base_least st.now st.block_at.least

    begun_on : Begun es m h x y e c upx upy tx ty blocks'
    unfolding vx vy label_at
    begun_on = record {
      origins = st.origins;
      aligned = st.aligned;
      now = st.now;
      block_at = st.block_at;
      fits_x = subst (λ (t : ℕ). FitsBlock st.origins st.now s t) (sym tx-is) x_fits;
      fits_y = subst (λ (t : ℕ). FitsBlock st.origins st.now 0 t) (sym ty-is) (subst (λ (b : Bool). FitsBlock st.origins st.now 0 (ith_label b (get_or m.labels (far es c y) 0) 0)) (sym way_x) y_fits);
      beside_x = λ z. now_x;
      beside_y = λ z. now_y;
      against = way_x;
    }
      where
        -- y's neighbour stands at place 1
        at_one : Fits upx (st.origins.origin st.now) (base st.now) 1 (get_or m.labels (far es c y) 0)
        at_one =
            let one : h.place sd.between.hi ≡ 1 = omega (arith, sd.between.step, ap h.place lo_is, face.bot) in
            let f : FitsBlock st.origins st.now 1 (get_or m.labels (far es c y) 0) = rw (now_y, one) at sd.fits in
            rw up_is at f

        x_fits : FitsBlock st.origins st.now s (ith_label upx (get_or m.labels (far es e x) 0) 0)
        x_fits = rw up_is (subst (λ (i : ℕ). Fits upx (st.origins.origin st.now) (base st.now) i (ith_label upx (get_or m.labels (far es e x) 0) 0))
            (let z : suc (h.place e + 0) ≡ s = omega (arith, face.high.top) in z)
            (fits_next upx (st.origins.origin st.now) (base st.now) (h.place e) (get_or m.labels (far es e x) 0) 0 st.block_at.first
            (omega (arith, face.high.top, few, base_many)) (rw up_is at st.fits)))

        y_fits : FitsBlock st.origins st.now 0 (ith_label (not upx) (get_or m.labels (far es c y) 0) 0)
        y_fits = rw up_is (fits_before upx (st.origins.origin st.now) (base st.now) (get_or m.labels (far es c y) 0) (omega (arith, st.block_at.last, few, base_many)) at_one)

  -- the two ends of the closing edge have such a block
  pub begun : Begun es m h x y e c cl.upx cl.upy cl.tx cl.ty res.blocks
  begun = go cl.by
    where
      go : EndLabels es m blocks x y e c cl.upx cl.upy cl.tx cl.ty res.blocks → Begun es m h x y e c cl.upx cl.upy cl.tx cl.ty res.blocks
      go (born fy ux uy et ey eb) = begun_born cl.upx cl.upy cl.tx cl.ty res.blocks fy ux uy et ey eb
      go (from_neighbours cx cy tx-is dx ty-is dy eb) = begun_on cl.upx cl.upy cl.tx cl.ty res.blocks cx cy tx-is dx ty-is dy eb
