-- A merge relabels the vertices of the chain that gives way: it has no more regular vertices than the other, so the room around each of them
-- doubles.
use mathlib.Core.Path.{◌≡◌, refl, sym, ap, ◌∙◌, subst}
use mathlib.Core.Logic.{◌≢◌, ◌⊎◌, inl, inr}
use Prim.Native.Nat.{ℕ, suc, ◌+◌, ◌*◌, ◌≤◌, ◌<◌}
use native.Mathlib.Omega.{arith}
use native.Mathlib.Nat.{mul-le-mul_left, mul-le-mul_right}
use native.Mathlib.Decide.{ℕ_discrete}
use mathlib.Core.Bool.{false}
use mathlib.Core.List.{List, [], ◌∷◌, ◌++◌}
use lib.ListN.{length, length-append}
use Rattle.model.specs.Graph.{Edge, Pass, degree, ends_at, far, is_regular}
use Rattle.model.specs.Labels.{inwards}
use Rattle.model.specs.Notions.{leaf_room}
use Rattle.model.proofs.Walks.Degree.{Proper, degree_snoc, is_two, leaf_singular, not_regular, proper_snoc, regular_no_end}
use Rattle.model.proofs.Walks.Turn.{At, Between, two_edges, turn_between}
use Rattle.model.proofs.Walks.Joins.{Across, across}
use Rattle.model.proofs.Walks.Trail.{Trail, pass, Next, next_edge, backwards, length_backwards, trail_append, trail_at, trail_back}
use Rattle.model.proofs.Walks.Snoc.{far_old, trail_old, trail_clear}
use Rattle.model.proofs.Walks.NewEdge.{length_new, at_new, old_edge}
use Rattle.model.proofs.Walks.NewTurn.{new_turn, far_last}
use Rattle.model.proofs.Walks.Ended.{trail_short, trail_unique}
use Rattle.model.proofs.Walks.Places.{Ith, ith_below}
use Rattle.model.proofs.Walks.CutAt.{CutAt, cut_at}
use Rattle.model.proofs.Walks.Tours.{Tour, is_x, tour_two, tour_follow, edge_on}
use Rattle.theory.proofs.Labels.Inwards.{Inward, inward}
use Rattle.theory.proofs.Repeats.Before.{ToLeaf, TwoLeaves, before, edges_between}
use Rattle.theory.proofs.Repeats.Room.{Room}

-- ---- arithmetic: i + 1 of the b regular vertices that give way to a others

double_square : (k i a b n : ℕ) → k ≤ leaf_room i n → i < b → b ≤ a → a + b + 2 ≤ n → 2 * k ≤ suc n * suc n
unfolding leaf_room
double_square k i a b n l h g m =
    omega (arith, l, mul-le-mul_right n (let z : 2 * (i + 1) ≤ n = omega arith in z), mul-le-mul_right (suc n) (let z : 1 ≤ suc n = omega arith in z))

-- the leaf beyond the chain that keeps its labels
double_far : (k i a b n : ℕ) → k ≤ leaf_room i n → i < b → b ≤ a → 2 * k ≤ leaf_room (i + 2 + a) (suc n)
unfolding leaf_room
double_far k i a b n l h g =
    omega (arith, l, mul-le-mul_right (suc n) (let z : 2 * (i + 1) ≤ i + 2 + a + 1 = omega arith in z), mul-le-mul_left (i + 1) (let z : n ≤ suc n = omega arith in z))

-- the leaf of the chain that gives way, if it had two
double_near : (k s a b n : ℕ) → k ≤ b + 1 → b ≤ a → a + b + 2 ≤ n → 2 * k ≤ leaf_room s (suc n)
unfolding leaf_room
double_near k s a b n l g m = omega (arith, l, mul-le-mul_right (suc n) (let z : 1 ≤ s + 1 = omega arith in z))

-- The edge joins the leaves x and y, with the edges e and c, of two chains, and that of y gives way.
module _ (es : List Edge) (p : Edge) (pr : Proper es) (ne : p.first ≢ p.second) (x y e c : ℕ) (ox : ends_at x p ≡ 1) (oy : ends_at y p ≡ 1) (xy : x ≢ y)
    (cx : degree es x ≡ 1) (cy : degree es y ≡ 1) (ax : At es x e) (ay : At es y c) (le : length (inwards es y) ≤ length (inwards es x))
    (stop-x : (i : Inward es x e (inwards es x)) → degree (es ++ (p ∷ [])) i.to ≢ 2) (stop-y : (i : Inward es y c (inwards es y)) → degree (es ++ (p ∷ [])) i.to ≢ 2) where
  abbrev new : List Edge
  new = es ++ (p ∷ [])

  abbrev prn : Proper (es ++ (p ∷ []))
  prn = proper_snoc es p pr ne

  inx : Inward es x e (inwards es x)
  inx = inward es pr x e cx ax

  iny : Inward es y c (inwards es y)
  iny = inward es pr y c cy ay

  xx : Across es e x
  xx = across es e x pr ax

  yy : Across es c y
  yy = across es c y pr ay

  missed : (v : ℕ) → degree es v ≡ 2 → ends_at v p ≡ 0
  missed v h = regular_no_end es p x y v ne ox oy xy cx cy h

  -- walks stay
  still : {d w q z : ℕ} {ss : List Pass} → At es w d → Trail es d w ss q z → Trail new d w ss q z
  still a u = trail_old p pr a (trail_clear p missed u) u

  -- from y over the edge and x, through x's chain
  abbrev beyond : List Pass
  beyond = record { before = c; at = y; after = length es } ∷ record { before = length es; at = x; after = e } ∷ inwards es x

  across_x : Trail new c y beyond inx.onto inx.to
  across_x =
      let bx : Between new x e (length es) = new_turn es p pr ne x e ox cx ax in
      let by : Between new y c (length es) = new_turn es p pr ne y c oy cy ay in
      let u : Trail new e (far new e x) (inwards es x) inx.onto inx.to = rw (far_old es p e x ax.inside) (still xx.at inx.trail) in
      let from_x : Trail new (length es) (far new (length es) y) (record { before = length es; at = x; after = e } ∷ inwards es x) inx.onto inx.to =
      rw (far_last es p pr ne y x oy ox (λ z. xy (sym z))) (pass e bx.regular bx.back u) in
      pass (length es) by.regular by.forth from_x

  sing_x : is_regular new inx.to ≡ false
  sing_x = not_regular new inx.to (stop-x inx)

  sing_y : is_regular new iny.to ≡ false
  sing_y = not_regular new iny.to (stop-y iny)

  -- both chains and the edge are one chain of at most all edges
  room : length (inwards es x) + length (inwards es y) + 2 ≤ length es
  room =
      let b : Trail es iny.onto (far es iny.onto iny.to) (backwards (inwards es y)) c y = rw yy.again at (trail_back pr yy.at iny.trail) in
      let a : At es (far es iny.onto iny.to) iny.onto = (across es iny.onto iny.to pr (trail_at pr yy.at iny.trail)).at in
      let s = trail_short new prn (at_new es p a) (trail_append (still a b) across_x) sing_x in
      omega (arith, s, length_new es p, length-append (backwards (inwards es y)) beyond, length_backwards (inwards es y))

  -- v is the i-th from y
  module _ (i : ℕ) (s : Pass) (j : Ith s i (inwards es y)) where
    k₀ : CutAt es c (far es c y) (inwards es y) iny.onto iny.to i s
    k₀ = cut_at iny.trail i s j

    abbrev v : ℕ
    v = s.at

    two : degree es v ≡ 2
    two = is_two es s.at k₀.regular

    zero_v : ends_at v p ≡ 0
    zero_v = missed v two

    at_before : At es v s.before
    at_before = trail_at pr yy.at k₀.before

    nx : Next es s.before v s.after
    nx = next_edge es s.before s.at s.after pr at_before k₀.regular k₀.turns

    -- back to y
    back : Trail es s.before (far es s.before v) (backwards k₀.front) c y
    back = rw yy.again at (trail_back pr yy.at k₀.before)

    abbrev to_y : ToLeaf es s.before (far es s.before v)
    to_y = record { passes = backwards k₀.front; onto = c; to = y; trail = back; leaf = cy }

    -- .. and on to the end of x's chain
    to_x : Trail new s.before (far es s.before v) (backwards k₀.front ++ beyond) inx.onto inx.to
    to_x = trail_append (still (across es s.before v pr at_before).at back) across_x

    away : Trail new s.after (far es s.after v) k₀.rest iny.onto iny.to
    away = still nx.across.at k₀.behind

    length_rest : i + length k₀.rest + 1 ≡ length (inwards es y)
    length_rest = omega (arith, ap length k₀.parts, length-append k₀.front (s ∷ k₀.rest), k₀.index)

    -- which way one sets out
    way : (d : ℕ) → At new v d → (d ≡ s.before) ⊎ (d ≡ s.after)
    way d a = go (ℕ_discrete s.before d)
      where
        go : Dec (s.before ≡ d) → (d ≡ s.before) ⊎ (d ≡ s.after)
        go (yes z) = inl (sym z)
        go (no z) = inr (sym (turn_between es s.at s.before d (two_edges es s.at pr two) at_before (old_edge es p s.at d zero_v a) z) ∙ k₀.turns)

    -- a walk to a leaf as one from v in the old list, along a given edge
    along : (d f : ℕ) → At new v d → d ≡ f → (l : ToLeaf new d (far new d v)) → Trail new f (far es f v) l.passes l.onto l.to
    along d f a w l =
        let far_is : far new d v ≡ far es d v = far_old es p d v (old_edge es p v d zero_v a).inside in
        subst (λ (b : ℕ). Trail new b (far es b v) l.passes l.onto l.to) w (rw far_is at l.trail)

    length_before : (d : ℕ) → At new v d → d ≡ s.before → (l : ToLeaf new d (far new d v)) → length l.passes ≡ i + 2 + length (inwards es x)
    length_before d a w l =
        let same = ap length (trail_unique (along d s.before a w l) (leaf_singular new l.to l.leaf) to_x sing_x) in
        omega (arith, same, length-append (backwards k₀.front) beyond, length_backwards k₀.front, k₀.index)

    length_after : (d : ℕ) → At new v d → d ≡ s.after → (l : ToLeaf new d (far new d v)) → length l.passes ≡ length k₀.rest
    length_after d a w l = ap length (trail_unique (along d s.after a w l) (leaf_singular new l.to l.leaf) away sing_y)

    no_round : (d q : ℕ) (path : List Pass) → Tour new v d q path → ⊥
    no_round d q path t =
        stop-x inx (tour_two prn t inx.to (tour_follow prn t (edge_on prn t v s.before (is_x refl) (at_new es p at_before)) (at_new es p (across es s.before v pr at_before).at) to_x))

    module _ {k : ℕ} (o : Room es s.at k) where
      near_y : k ≤ leaf_room i (length es)
      near_y = subst (λ (n : ℕ). k ≤ leaf_room n (length es)) (length_backwards k₀.front ∙ k₀.index) (o.to_leaf s.before two at_before to_y)

      -- where the chain of y has another leaf
      other_leaf : (d : ℕ) → At new v d → d ≡ s.after → ToLeaf new d (far new d v) → k ≤ length (inwards es y) + 1
      other_leaf d a w l =
          let b = before es p pr ne zero_v a l in
          let b' : (b : ToLeaf es s.after (far es s.after s.at)) × (length b.passes ≤ length l.passes) =
          subst (λ (f : ℕ). (b : ToLeaf es f (far es f s.at)) × (length b.passes ≤ length l.passes)) w b in
          let t : TwoLeaves es s.before s.after s.at = record { one = to_y; other = b'.0 } in
          omega (arith, o.two_leaves s.before s.after two at_before nx.at (λ h. nx.other (sym h)) t, b'.1, length_after d a w l, length_rest, length_backwards k₀.front, k₀.index)

      leaf_doubled : (d : ℕ) → At new v d → (d ≡ s.before) ⊎ (d ≡ s.after) → (l : ToLeaf new d (far new d v)) → 2 * k ≤ leaf_room (length l.passes) (suc (length es))
      leaf_doubled d a (inl w) l = rw (length_before d a w l) (double_far k i (length (inwards es x)) (length (inwards es y)) (length es) near_y (ith_below j) le)
      leaf_doubled d a (inr w) l = double_near k (length l.passes) (length (inwards es x)) (length (inwards es y)) (length es) (other_leaf d a w l) le room

      leaves_doubled : (f d : ℕ) → At new v f → At new v d → f ≢ d → (b : TwoLeaves new f d v) → (f ≡ s.before) ⊎ (f ≡ s.after) → (d ≡ s.before) ⊎ (d ≡ s.after)
          → 2 * k ≤ edges_between b
      leaves_doubled f d a a' n b (inl w) (inl w') = absurd (n (w ∙ sym w'))
      leaves_doubled f d a a' n b (inr w) (inr w') = absurd (n (w ∙ sym w'))
      leaves_doubled f d a a' n b (inl w) (inr w') = omega (arith, other_leaf d a' w' b.other, length_before f a w b.one, length_after d a' w' b.other, length_rest, le)
      leaves_doubled f d a a' n b (inr w) (inl w') = omega (arith, other_leaf f a w b.one, length_before d a' w' b.other, length_after f a w b.one, length_rest, le)

      -- the room around a vertex of the chain that gives way doubles
      pub room_merged : Room (es ++ (p ∷ [])) s.at (2 * k)
      room_merged = record {
        not_yet = λ h. absurd (omega (arith, degree_snoc es p s.at, two));
        always = λ h. rw (length_new es p) (double_square k i (length (inwards es x)) (length (inwards es y)) (length es) near_y (ith_below j) le room);
        to_leaf = λ d h a l. rw (length_new es p) (leaf_doubled d a (way d a) l);
        two_leaves = λ f d h a a' n b. leaves_doubled f d a a' n b (way f a) (way d a');
        on_ring = λ d q path t. absurd (no_round d q path t);
      }
