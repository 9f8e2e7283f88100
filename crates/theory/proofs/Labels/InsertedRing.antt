-- An edge that closes a ring has the form that Labels/Closed states.
use mathlib.Core.Path.{◌≡◌, refl, sym, ap, ◌∙◌, subst}
use mathlib.Core.Logic.{◌≢◌}
use Prim.Native.Nat.{ℕ, ◌+◌}
use native.Mathlib.Omega.{arith}
use native.Mathlib.Decide.{ℕ_discrete}
use mathlib.Core.Bool.{Bool, true, false}
use mathlib.Core.List.{List, [], ◌∷◌}
use lib.ListN.{length, get_or, set}
use lib.Seq.{get_or-set_other}
use borrow.Author.Tests.{eq-eqb, ne_eqb}
use Rattle.model.specs.Graph.{Edge, Pass, degree, end_of, end_onwards, far}
use Rattle.model.specs.Cases.{closes_ring}
use Rattle.model.specs.Labels.{Labelling, Marks, attach, base, close, close_over, inwards, label_path, mark, next}
use Rattle.model.proofs.Walks.Degree.{Proper, end_first, end_second, is_two, not_two}
use Rattle.model.proofs.Walks.Turn.{At, one_edge_lem, only_edge_is}
use Rattle.model.proofs.Walks.Joins.{across}
use Rattle.model.proofs.Walks.Trail.{Trail, trail_at, trail_cons, trail_end_of, trail_nil}
use Rattle.model.proofs.Walks.Ring.{Closes, closes_of}
use Rattle.model.proofs.Labels.Following.{ith_label, low_of}
use Rattle.theory.proofs.Labels.Inwards.{Inward, inward, Last, nothing, passed, trail_last, trail_regular}
use Rattle.theory.proofs.Labels.Closed.{Direction, EndLabels, born, from_neighbours}
use Rattle.theory.proofs.Labels.Laid.{Inserted, closes}

-- what `attach` makes of one vertex beside the nearest of a chain
record One (n e x u : ℕ) (blocks : ℕ) (m : Marks) (res : Labelling) : Type 0 where
  up : Bool
  blocks_are : res.blocks ≡ blocks
  marks_are : res.marks ≡ mark x (ith_label up (get_or m.labels u 0) 0) (low_of up (record { before = e; at = x; after = n })) m
  way : Direction up (get_or m.lows u 0) e

attach_one : (n e x blocks : ℕ) (u : Pass) (us : List Pass) (m : Marks) → One n e x u.at blocks m (attach blocks e (u ∷ us) (record { before = e; at = x; after = n } ∷ []) m)
unfolding attach label_path next ith_label low_of
attach_one n e x blocks u us m = go (ℕ_discrete (get_or m.lows u.at 0) e)
  where
    go : Dec (get_or m.lows u.at 0 ≡ e) → One n e x u.at blocks m (attach blocks e (u ∷ us) (record { before = e; at = x; after = n } ∷ []) m)
    go (yes q) = record { up = false; blocks_are = refl; marks_are = rw (eq-eqb (get_or m.lows u.at 0) e q); way = q }
    go (no q) = record { up = true; blocks_are = refl; marks_are = rw (ne_eqb (get_or m.lows u.at 0) e q); way = q }

module _ (es : List Edge) (p : Edge) (pr : Proper es) (d : p.first ≢ p.second) (blocks : ℕ) (m : Marks) (cr : closes_ring es p.first p.second ≡ true) where
  abbrev x : ℕ
  x = p.first

  abbrev y : ℕ
  y = p.second

  both : Closes es x y
  both = closes_of es x y cr

  abbrev e : ℕ
  e = (one_edge_lem es x pr both.a_leaf).edge

  abbrev c : ℕ
  c = (one_edge_lem es y pr both.b_leaf).edge

  ax : At es x e
  ax = (one_edge_lem es x pr both.a_leaf).at

  ay : At es y c
  ay = (one_edge_lem es y pr both.b_leaf).at

  inx : Inward es x e (inwards es x)
  inx = inward es pr x e both.a_leaf ax

  iny : Inward es y c (inwards es y)
  iny = inward es pr y c both.b_leaf ay

  -- the walk from x comes to y, on y's edge
  to_y : inx.to ≡ y
  unfolding inwards end_onwards
  to_y = sym (trail_end_of inx.trail) ∙ ap (λ (z : ℕ). end_of es (far es z x) (inwards es x)) (sym (only_edge_is es x e pr both.a_leaf ax)) ∙ both.arrives

  chain : Trail es e (far es e x) (inwards es x) c y
  chain =
      let u : Trail es e (far es e x) (inwards es x) inx.onto y = rw to_y at inx.trail in
      let onto_c : inx.onto ≡ c = (one_edge_lem es y pr both.b_leaf).only inx.onto (trail_at pr (across es e x pr ax).at u) in
      rw onto_c at u

  closed_form : {res : Labelling} (upx upy : Bool) (tx ty : ℕ) → EndLabels es m blocks x y e c upx upy tx ty res.blocks
      → res.marks ≡ mark y ty (low_of upy (record { before = c; at = y; after = length es })) (mark x tx (low_of upx (record { before = e; at = x; after = length es })) m)
      → Inserted es p blocks m res
  closed_form upx upy tx ty by eq = closes x y e c (record {
    x_end = end_first p d;
    y_end = end_second p d;
    x_y = d;
    x_leaf = both.a_leaf;
    y_leaf = both.b_leaf;
    e_at = ax;
    c_at = ay;
    passes = inwards es x;
    trail = chain;
    upx = upx;
    upy = upy;
    tx = tx;
    ty = ty;
    by = by;
    marks_is = eq;
  })

  -- the vertex before y on the way is regular, if one is passed
  before_y : (u : Pass) (us : List Pass) → inwards es x ≡ u ∷ us → degree es (far es c y) ≡ 2
  before_y u us q = go (trail_last pr (across es e x pr ax).at chain)
    where
      go : Last es e (far es e x) (inwards es x) c y → degree es (far es c y) ≡ 2
      go (nothing i j) =
          let h = trail_cons (rw q at chain) in
          absurd (let z : degree es y ≡ 2 = rw j (is_two es (far es e x) h.1) in omega (arith, both.b_leaf))
      go (passed f) = rw f.at_is at (trail_regular chain f.index f.pass_is f.ith)

  on_close : (from_x from_y : List Pass) → inwards es x ≡ from_x → inwards es y ≡ from_y → Inserted es p blocks m (close_over from_x from_y es blocks x y m)
  unfolding close_over label_path next low_of mark
  on_close [] from_y ex ey =
      rw (only_edge_is es y c pr both.b_leaf ay)
      (closed_form false true (base (blocks + 1)) (base (blocks + 1) + 1) (born (trail_nil (rw ex at chain)) refl refl refl refl refl) refl)
  on_close (u ∷ us) [] ex ey =
      let z : far es c y ≡ iny.to = trail_nil (rw ey at iny.trail) in
      absurd (not_two es iny.to iny.singular (rw (← z) (before_y u us ex)))
  on_close (u ∷ us) (v ∷ vs) ex ey =
      rw (only_edge_is es x e pr both.a_leaf ax, only_edge_is es y c pr both.b_leaf ay)
      (closed_form a.up b.up _ _ (from_neighbours cx cy refl (subst (λ (z : ℕ). Direction a.up (get_or m.lows z 0) e) u_is a.way) refl way_y (b.blocks_are ∙ a.blocks_are)) marks)
    where
      a : One (length es) e x u.at blocks m (attach blocks e (u ∷ us) (record { before = e; at = x; after = length es } ∷ []) m)
      a = attach_one (length es) e x blocks u us m

      l : Labelling
      l = attach blocks e (u ∷ us) (record { before = e; at = x; after = length es } ∷ []) m

      b : One (length es) c y v.at l.blocks l.marks (attach l.blocks c (v ∷ vs) (record { before = c; at = y; after = length es } ∷ []) l.marks)
      b = attach_one (length es) c y l.blocks v vs l.marks

      u_is : u.at ≡ far es e x
      u_is = (trail_cons (rw ex at chain)).0

      v_is : v.at ≡ far es c y
      v_is = (trail_cons (rw ey at iny.trail)).0

      cx : degree es (far es e x) ≡ 2
      cx = is_two es (far es e x) (trail_cons (rw ex at chain)).1

      cy : degree es (far es c y) ≡ 2
      cy = is_two es (far es c y) (trail_cons (rw ey at iny.trail)).1

      not_x : far es c y ≢ x
      not_x q = let z : degree es x ≡ 2 = rw q at cy in omega (arith, both.a_leaf)

      low_y : get_or l.marks.lows v.at 0 ≡ get_or m.lows (far es c y) 0
      low_y = ap (λ (o : Marks). get_or o.lows v.at 0) a.marks_are ∙ ap (λ (z : ℕ). get_or (set m.lows x (low_of a.up (record { before = e; at = x; after = length es }))) z 0) v_is
          ∙ get_or-set_other m.lows x (far es c y) (low_of a.up (record { before = e; at = x; after = length es })) 0 not_x

      label_y : get_or l.marks.labels v.at 0 ≡ get_or m.labels (far es c y) 0
      label_y = ap (λ (o : Marks). get_or o.labels v.at 0) a.marks_are ∙ ap (λ (z : ℕ). get_or (set m.labels x (ith_label a.up (get_or m.labels u.at 0) 0)) z 0) v_is
          ∙ get_or-set_other m.labels x (far es c y) (ith_label a.up (get_or m.labels u.at 0) 0) 0 not_x

      way_y : Direction b.up (get_or m.lows (far es c y) 0) c
      way_y = subst (λ (z : ℕ). Direction b.up z c) low_y b.way

      marks : (attach l.blocks c (v ∷ vs) (record { before = c; at = y; after = length es } ∷ []) l.marks).marks
          ≡ mark y (ith_label b.up (get_or m.labels (far es c y) 0) 0) (low_of b.up (record { before = c; at = y; after = length es }))
          (mark x (ith_label a.up (get_or m.labels (far es e x) 0) 0) (low_of a.up (record { before = e; at = x; after = length es })) m)
      marks = b.marks_are
          ∙ ap (λ (z : ℕ). mark y (ith_label b.up z 0) (low_of b.up (record { before = c; at = y; after = length es })) l.marks) label_y
          ∙ ap (λ (o : Marks). mark y (ith_label b.up (get_or m.labels (far es c y) 0) 0) (low_of b.up (record { before = c; at = y; after = length es })) o)
          (a.marks_are ∙ ap (λ (z : ℕ). mark x (ith_label a.up (get_or m.labels z 0) 0) (low_of a.up (record { before = e; at = x; after = length es })) m) u_is)

  -- an edge that closes a ring has the form `Closed`
  pub inserted_close : Inserted es p blocks m (close es blocks p.first p.second m)
  unfolding close
  inserted_close = on_close (inwards es p.first) (inwards es p.second) refl refl
