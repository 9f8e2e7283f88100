-- Each case of one more edge has the form that Labels/Laid states.
use Rattle.std.specs.Prelude.{if◌then◌else◌}
use mathlib.Core.Path.{◌≡◌, refl, sym, ◌∙◌}
use mathlib.Core.Logic.{◌≢◌, ◌⊎◌, inl, inr}
use Prim.Native.Nat.{ℕ, ◌≤◌}
use native.Mathlib.Omega.{arith}
use native.Mathlib.Decide.{ℕ_discrete}
use mathlib.Core.Bool.{Bool, true, false}
use mathlib.Core.List.{List, [], ◌∷◌, ◌++◌}
use lib.ListN.{length}
use lib.Dec.{leb}
use borrow.Author.Tests.{eq-eqb, ne_eqb}
use Rattle.model.specs.Graph.{Edge, Pass, degree, ends_at, far, is_leaf, is_regular, only_edge, onwards}
use Rattle.model.specs.Cases.{closes_ring}
use Rattle.model.specs.Labels.{Labelling, Marks, attach, close, extend, inner_count, inwards, join_path, label_edge, merge}
use Rattle.model.proofs.Walks.Degree.{Proper, degree_snoc, ends_at_le, zero_or_one, is_two, not_two, leaf_singular, proper_snoc, end_first, end_second, two_ends, no_end, regular_no_end}
use Rattle.model.proofs.Walks.Turn.{At, one_edge_lem, only_edge_is}
use Rattle.model.proofs.Walks.Trail.{Trail, done, pass, trail_nil, trail_cons}
use Rattle.model.proofs.Walks.Snoc.{far_old, trail_old, trail_clear}
use Rattle.model.proofs.Walks.Returns.{singular_ends}
use Rattle.model.proofs.Walks.NewEdge.{at_new}
use Rattle.model.proofs.Labels.Shorter.{first_shorter, second_shorter}
use Rattle.theory.proofs.Labels.Cases.{bared, compact, edge_compact}
use Rattle.model.proofs.Walks.Places.{here, later, InPath}
use Rattle.theory.proofs.Labels.Splits.{Bare, no_splits}
use Rattle.theory.proofs.Labels.Taps.{Bared}
use Rattle.theory.proofs.Labels.Tapped.{bared_is}
use Rattle.theory.proofs.Labels.InsertedRing.{inserted_close}
use Rattle.theory.proofs.Labels.Inwards.{Inward, inward_on, inward}
use Rattle.theory.proofs.Labels.Laid.{Attached, attached, Laid, extend_path, merge_path, Inserted, fresh, extends, merges}
use Rattle.model.proofs.Walks.NewTurn.{new_turn, far_last}
use Rattle.model.proofs.Walks.Joins.{across, far_ne}
use Rattle.model.proofs.Walks.Ended.{Ended, leaf_once}
use Rattle.model.proofs.Walks.Ring.{no_ring, ends_still}

module _ (es : List Edge) (p : Edge) (pr : Proper es) (d : p.first ≢ p.second)
    (nr : closes_ring es p.first p.second ≡ false) (blocks : ℕ) (m : Marks) where
  abbrev new : List Edge
  new = es ++ (p ∷ [])

  proper_new : Proper new
  proper_new = proper_snoc es p pr d

  -- the way inwards from a leaf ends at a singular vertex of the new list too
  stop_new : (x y e : ℕ) (ss : List Pass) → ends_at x p ≡ 1 → ends_at y p ≡ 1 → x ≢ y → degree es x ≡ 1 → degree es y ≡ 1 → At es x e → (i : Inward es x e ss) → degree new i.to ≢ 2
  stop_new x y e ss ox oy xy cx cy a i = go (zero_or_one (ends_at i.to p) (ends_at_le i.to p d))
    where
      which : (i.to ≡ x) ⊎ (i.to ≡ y) → ⊥
      which (inl q) = leaf_once es pr x e i.onto ss cx a (rw q at i.trail)
      which (inr q) =
          let u : Trail es e (far es e x) ss i.onto y = rw q at i.trail in
          no_ring es p pr nr y x e i.onto ss oy ox cy cx a u (λ z. xy (sym z))

      go : (ends_at i.to p ≡ 0) ⊎ (ends_at i.to p ≡ 1) → degree new i.to ≢ 2
      go (inl z) c = not_two es i.to i.singular (omega (arith, degree_snoc es p i.to))
      go (inr o) c = which (two_ends p x y i.to ox oy xy o)

  -- x is a leaf, y the other end
  module _ (x y : ℕ) (ox : ends_at x p ≡ 1) (oy : ends_at y p ≡ 1) (xy : x ≢ y) (cx : degree es x ≡ 1) where
    abbrev e : ℕ
    e = (one_edge_lem es x pr cx).edge

    a : At es x e
    a = (one_edge_lem es x pr cx).at

    w : ℕ
    w = far es e x

    an_end : (v : ℕ) → ends_at v p ≡ 1 → (v ≡ x) ⊎ (v ≡ y)
    an_end v o = two_ends p x y v ox oy xy o

    laid : {path : List Pass} {m' : Marks} {res : Labelling} {onto to : ℕ} → Bare es p m m' → Attached es p w blocks e path m m' res → Trail new e x path onto to → degree new to ≢ 2
        → ((v : ℕ) → ends_at v p ≡ 1 → degree new v ≡ 2 → InPath path v) → (la : Laid es p blocks m res x y e path) × (la.m' ≡ m')
    unfolding w
    laid {m' = m'} {onto = onto} {to = to} br g tr stops has = (
      record {
        x_end = ox;
        y_end = oy;
        x_y = xy;
        x_leaf = cx;
        e_at = a;
        m' = m';
        bare = br;
        up = g.up;
        label = g.label;
        marks_is = g.marks_is;
        onto = onto;
        to = to;
        trail = tr;
        stops = stops;
        by = g.by;
        has = has;
      },
      refl,
    )

    -- the path begins at x and goes on over the new edge
    path_on : {ss : List Pass} {onto to : ℕ} → Trail new (length es) y ss onto to → Trail new e x (record { before = e; at = x; after = length es } ∷ ss) onto to
    path_on {ss} {onto} {to} u =
        let u' : Trail new (length es) (far new (length es) x) ss onto to = rw (far_last es p pr d x y ox oy xy) u in
        let t = new_turn es p pr d x e ox cx a in
        pass (length es) t.regular t.forth u'

    -- ---- extending
    module _ (m' : Marks) (ny : degree es y ≢ 1) (br : Bare es p m m') where
      attached_extend : Attached es p w blocks e (extend_path es x e) m m' (attach blocks e (onwards new e (far new e x)) (extend_path es x e) m')
      unfolding w
      attached_extend = attached es p w blocks e _ _ m m' br (λ q c. not_two new i.to i.singular (rw (← trail_nil (rw q at i.trail), w_is) c)) head
        where
          ended : Ended new e (far new e x)
          ended =
              rw (far_old es p e x a.inside)
              (ends_still es p pr d nr e (far es e x) (across es e x pr a).at (singular_ends es pr e x a (leaf_singular es x cx)))

          i : Inward new x e (onwards new e (far new e x))
          i = inward_on new proper_new x e (at_new es p a) ended

          w_is : far new e x ≡ w
          w_is = far_old es p e x a.inside

          not_w : degree es w ≡ 1 → (w ≡ x) ⊎ (w ≡ y) → ⊥
          not_w c (inl q) = far_ne es e x pr a q
          not_w c (inr q) = ny (rw q at c)

          head : (u : Pass) (us : List Pass) → onwards new e (far new e x) ≡ u ∷ us → (u.at ≡ w) × (degree es w ≡ 2) × (ends_at w p ≡ 0)
          head u us q =
              let h = trail_cons (rw q at i.trail) in
              let c : degree new w ≡ 2 = rw w_is at (is_two new (far new e x) h.1) in
              let o : ends_at w p ≡ 0 = no_end p w d (λ k. not_w (omega (arith, degree_snoc es p w)) (an_end w k)) in
              (h.0 ∙ w_is, omega (arith, degree_snoc es p w), o)

      laid_extend : (la : Laid es p blocks m (extend es new blocks x m') x y e (extend_path es x e)) × (la.m' ≡ m')
      unfolding extend
      laid_extend =
          rw (only_edge_is es x e pr cx a)
          (laid br attached_extend (path_on done) (λ c. ny (omega (arith, degree_snoc es p y))) (λ v o c. on_path v (omega (arith, degree_snoc es p v)) (an_end v o)))
        where
          on_path : (v : ℕ) → degree es v ≡ 1 → (v ≡ x) ⊎ (v ≡ y) → InPath (extend_path es x e) v
          on_path v c (inl q) = record { index = 0; pass_is = _; ith = here; at_is = sym q }
          on_path v c (inr q) = absurd (ny (rw q at c))

    -- ---- merging
    module _ (cy : degree es y ≡ 1) where
      abbrev c : ℕ
      c = (one_edge_lem es y pr cy).edge

      b : At es y c
      b = (one_edge_lem es y pr cy).at

      bare : Bare es p m m
      bare = no_splits es p m (λ v o. was_leaf v (an_end v o))
        where
          was_leaf : (v : ℕ) → (v ≡ x) ⊎ (v ≡ y) → degree es v ≡ 1
          was_leaf v (inl q) = rw q cx
          was_leaf v (inr q) = rw q cy

      missed : (v : ℕ) → degree es v ≡ 2 → ends_at v p ≡ 0
      missed v q = regular_no_end es p x y v d ox oy xy cx cy q

      attached_merge : Attached es p w blocks e (merge_path es x y e c) m m (attach blocks e (inwards es x) (merge_path es x y e c) m)
      unfolding w
      attached_merge = attached es p w blocks e _ _ m m bare (λ q k. stop_new x y e (inwards es x) ox oy xy cx cy a i (rw (← trail_nil (rw q at i.trail)) k)) head
        where
          i : Inward es x e (inwards es x)
          i = inward es pr x e cx a

          head : (u : Pass) (us : List Pass) → inwards es x ≡ u ∷ us → (u.at ≡ w) × (degree es w ≡ 2) × (ends_at w p ≡ 0)
          head u us q =
              let h = trail_cons (rw q at i.trail) in
              let k : degree es w ≡ 2 = is_two es w h.1 in
              (h.0, k, missed w k)

      laid_merge : length (inwards es y) ≤ length (inwards es x) → Inserted es p blocks m (attach blocks (only_edge es x) (inwards es x) (join_path es x y) m)
      unfolding join_path
      laid_merge le =
          rw (only_edge_is es x e pr cx a, only_edge_is es y c pr cy b)
          (let r = laid bare attached_merge (path_on u) (stop_new y x c (inwards es y) oy ox (λ z. xy (sym z)) cy cx b i) (λ v o k. on_path v (an_end v o)) in
          merges x y e c cy b le r.0 r.1 (stop_new x y e (inwards es x) ox oy xy cx cy a) (stop_new y x c (inwards es y) oy ox (λ z. xy (sym z)) cy cx b))
        where
          i : Inward es y c (inwards es y)
          i = inward es pr y c cy b

          u : Trail new (length es) y (record { before = length es; at = y; after = c } ∷ inwards es y) i.onto i.to
          u =
              let t : Trail new c (far es c y) (inwards es y) i.onto i.to = trail_old p pr (across es c y pr b).at (trail_clear p missed i.trail) i.trail in
              let t' : Trail new c (far new c y) (inwards es y) i.onto i.to = rw (far_old es p c y b.inside) t in
              let ty = new_turn es p pr d y c oy cy b in
              pass c ty.regular ty.back t'

          on_path : (v : ℕ) → (v ≡ x) ⊎ (v ≡ y) → InPath (merge_path es x y e c) v
          on_path v (inl q) = record { index = 0; pass_is = _; ith = here; at_is = sym q }
          on_path v (inr q) = record { index = 1; pass_is = _; ith = later here; at_is = sym q }

module _ (es : List Edge) (p : Edge) (pr : Proper es) (d : p.first ≢ p.second) (blocks : ℕ) (m : Marks) where
  -- ---- no ring is closed
  inserted_open : closes_ring es p.first p.second ≡ false
      → Inserted es p blocks m (compact (is_leaf es p.first) (is_leaf es p.second) (is_regular es p.first) (is_regular es p.second) es p blocks m)
  unfolding compact is_leaf merge
  inserted_open nr = go (ℕ_discrete (degree es p.first) 1) (ℕ_discrete (degree es p.second) 1)
    where
      a : ℕ
      a = p.first

      b : ℕ
      b = p.second

      l : Labelling
      l = bared (is_regular es p.first) (is_regular es p.second) es p blocks m

      k : Bared es p blocks m l
      k = bared_is es p pr d blocks m

      by_length : degree es a ≡ 1 → degree es b ≡ 1 → (t : Bool) → leb (inner_count es b) (inner_count es a) ≡ t
          → Inserted es p blocks m (if t then attach blocks (only_edge es a) (inwards es a) (join_path es a b) m else attach blocks (only_edge es b) (inwards es b) (join_path es b a) m)
      by_length ca cb true q =
          laid_merge es p pr d nr blocks m a b (end_first p d) (end_second p d) d ca cb (second_shorter es a b q)
      by_length ca cb false q =
          laid_merge es p pr d nr blocks m b a (end_second p d) (end_first p d) (λ z. d (sym z)) cb ca (first_shorter es a b q)

      go : Dec (degree es a ≡ 1) → Dec (degree es b ≡ 1) → Inserted es p blocks m (compact (is_leaf es a) (is_leaf es b) (is_regular es a) (is_regular es b) es p blocks m)
      go (yes ca) (yes cb) = rw (eq-eqb (degree es a) 1 ca, eq-eqb (degree es b) 1 cb) (by_length ca cb (leb (inner_count es b) (inner_count es a)) refl)
      go (yes ca) (no cb) =
          let r = laid_extend es p pr d nr l.blocks k.after a b (end_first p d) (end_second p d) d ca l.marks cb k.bare in
          rw (eq-eqb (degree es a) 1 ca, ne_eqb (degree es b) 1 cb) (extends a b _ cb l k r.0 r.1)
      go (no ca) (yes cb) =
          let r = laid_extend es p pr d nr l.blocks k.after b a (end_second p d) (end_first p d) (λ z. d (sym z)) cb l.marks ca k.bare in
          rw (ne_eqb (degree es a) 1 ca, eq-eqb (degree es b) 1 cb) (extends b a _ ca l k r.0 r.1)
      go (no ca) (no cb) = rw (ne_eqb (degree es a) 1 ca, ne_eqb (degree es b) 1 cb) (fresh ca cb k)

  -- one more edge has one of the four forms
  pub inserted : Inserted es p blocks m (label_edge es p blocks m)
  inserted = rw (edge_compact es p blocks m) (go (closes_ring es p.first p.second) refl)
    where
      go : (b : Bool) → closes_ring es p.first p.second ≡ b
          → Inserted es p blocks m (if b then close es blocks p.first p.second m
          else compact (is_leaf es p.first) (is_leaf es p.second) (is_regular es p.first) (is_regular es p.second) es p blocks m)
      go true t = inserted_close es p pr d blocks m t
      go false t = inserted_open t
