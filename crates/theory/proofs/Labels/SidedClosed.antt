-- One more edge that closes a ring keeps `Sided`; it is the last edge of the ring.
use mathlib.Core.Path.{◌≡◌, refl, sym, ap, ◌∙◌, subst}
use mathlib.Core.Logic.{◌≢◌, ◌⊎◌, inl, inr}
use Prim.Native.Nat.{ℕ, ◌≤◌, ◌<◌}
use native.Mathlib.Omega.{arith}
use native.Mathlib.Decide.{ℕ_discrete}
use mathlib.Core.Bool.{Bool, true, false}
use mathlib.Core.List.{List, [], ◌∷◌, ◌++◌}
use lib.ListN.{length, length-set}
use lib.Seq.{get_or-set_same}
use Rattle.model.specs.Graph.{Edge, Pass, chain_of, degree, ends_at, far}
use Rattle.model.specs.Cases.{closes_ring}
use Rattle.model.specs.Labels.{Labelling, Marks, mark}
use Rattle.model.proofs.Basics.Counting.{below_mem}
use Rattle.model.proofs.Walks.Degree.{Proper, no_end, proper_snoc, two_ends}
use Rattle.model.proofs.Walks.Turn.{At, OneEdge, one_edge_lem}
use Rattle.model.proofs.Walks.Joins.{across, other_end}
use Rattle.model.proofs.Walks.Trail.{Trail, trail_nil}
use Rattle.model.proofs.Walks.NewEdge.{Which, at_last, at_new, at_old, is_new, is_old, last_at, length_new, which}
use Rattle.model.proofs.Walks.Ring.{no_ring, ring_decides}
use Rattle.model.proofs.Chains.Partition.{each_once}
use Rattle.model.proofs.Labels.Following.{label_at, low_at, low_of}
use Rattle.theory.proofs.Labels.Closed.{Closed, Direction, EndLabels, born, from_neighbours}
use Rattle.theory.proofs.Labels.WearsAfter.{LongEnough}
use Rattle.theory.proofs.Labels.Rise.{Agrees, IsSeam, OneLow, Pairs, Rise, Sided, Step, agrees_then, first_low, mark_agrees, pairs_back, rise_back, rises, seam, second_low, step_as, step_back, up_to}
use Rattle.theory.proofs.Labels.KeepsSide.{keeps_side}
use Rattle.theory.proofs.Labels.Away.{Away}
use Rattle.theory.proofs.Labels.SidedLaid.{beside_neighbour, low_of_at, pairs_old, two_old}

mark_label : (w label low : ℕ) (m : Marks) → w < length m.labels → label_at (mark w label low m) w ≡ label
unfolding mark label_at
mark_label w label low m l = get_or-set_same m.labels w label 0 l

mark_low : (w label low : ℕ) (m : Marks) → w < length m.lows → low_at (mark w label low m) w ≡ low
unfolding mark low_at
mark_low w label low m l = get_or-set_same m.lows w low 0 l

mark_long : (w label low v : ℕ) (m : Marks) → v < length m.labels → v < length m.lows → (v < length (mark w label low m).labels) × (v < length (mark w label low m).lows)
unfolding mark
mark_long w label low v m a b = (omega (arith, length-set m.labels w label), omega (arith, length-set m.lows w low))

-- ---- the edge that closes the ring

-- one end goes up from its neighbour and the other down
one_side : (upx upy : Bool) (lx ly ex ey : ℕ) → Direction upx lx ex → Direction upy ly ey → (lx ≡ ex → ly ≢ ey) → (lx ≢ ex → ly ≡ ey) → ((upx ≡ true) × (upy ≡ false)) ⊎ ((upx ≡ false) × (upy ≡ true))
one_side true true lx ly ex ey a b f g = absurd (b (g a))
one_side true false lx ly ex ey a b f g = inl (refl, refl)
one_side false true lx ly ex ey a b f g = inr (refl, refl)
one_side false false lx ly ex ey a b f g = absurd (f a b)

module _ (es : List Edge) (p : Edge) (pr : Proper es) (d : p.first ≢ p.second) {blocks : ℕ} {m : Marks} (old : Sided es m) (s : Away es p pr d m)
    (lg : LongEnough (es ++ (p ∷ [])) m) {res : Labelling} {x y e c : ℕ} (cl : Closed es p blocks m res x y e c)
    (pos : (v : ℕ) → degree (es ++ (p ∷ [])) v ≡ 2 → 1 ≤ label_at res.marks v) where
  abbrev new : List Edge
  new = es ++ (p ∷ [])

  proper_new : Proper new
  proper_new = proper_snoc es p pr d

  abbrev n : ℕ
  n = length es

  abbrev at_x : Pass
  at_x = record { before = e; at = x; after = length es }

  abbrev at_y : Pass
  at_y = record { before = c; at = y; after = length es }

  abbrev m₁ : Marks
  m₁ = mark x cl.tx (low_of cl.upx at_x) m

  abbrev after : Marks
  after = mark y cl.ty (low_of cl.upy at_y) m₁

  y_x : y ≢ x
  y_x = λ z. cl.x_y (sym z)

  room : (v : ℕ) → ends_at v p ≡ 1 → (v < length m.labels) × (v < length m.lows)
  room v o = let l = lg.long v n (at_last es p o) in (l, omega (arith, l, lg.even))

  keep₁ : (v : ℕ) → v ≢ x → Agrees m m₁ v
  keep₁ v k = mark_agrees x _ _ m v k

  keep₂ : (v : ℕ) → v ≢ y → Agrees m₁ after v
  keep₂ v k = mark_agrees y _ _ m₁ v k

  label_x : label_at after x ≡ cl.tx
  label_x = (keep₂ x cl.x_y).label_same ∙ mark_label x _ _ m (room x cl.x_end).0

  low_x : low_at after x ≡ low_of cl.upx at_x
  low_x = (keep₂ x cl.x_y).low_same ∙ mark_low x _ _ m (room x cl.x_end).1

  room_y : (y < length m₁.labels) × (y < length m₁.lows)
  room_y = mark_long x _ _ y m (room y cl.y_end).0 (room y cl.y_end).1

  label_y : label_at after y ≡ cl.ty
  label_y = mark_label y _ _ m₁ room_y.0

  low_y : low_at after y ≡ low_of cl.upy at_y
  low_y = mark_low y _ _ m₁ room_y.1

  pos' : (v : ℕ) → degree new v ≡ 2 → 1 ≤ label_at after v
  pos' v k = subst (λ (i : Marks). 1 ≤ label_at i v) cl.marks_is (pos v k)

  e_n : e ≢ n
  e_n = λ z. omega (arith, cl.e_at.inside)

  c_n : c ≢ n
  c_n = λ z. omega (arith, cl.c_at.inside)

  only_x : (j : ℕ) → At es x j → j ≡ e
  only_x j a = let o : OneEdge es x = one_edge_lem es x pr cl.x_leaf in o.only j a ∙ sym (o.only e cl.e_at)

  only_y : (j : ℕ) → At es y j → j ≡ c
  only_y j a = let o : OneEdge es y = one_edge_lem es y pr cl.y_leaf in o.only j a ∙ sym (o.only c cl.c_at)

  -- the new edge is the last of the ring
  closing : closes_ring es p.first p.second ≡ true
  closing = go (closes_ring es p.first p.second) refl
    where
      go : (t : Bool) → closes_ring es p.first p.second ≡ t → closes_ring es p.first p.second ≡ true
      go true t = t
      go false t = absurd (no_ring es p pr t y x e c cl.passes cl.y_end cl.x_end cl.y_leaf cl.x_leaf cl.e_at cl.trail y_x)

  is_seam : IsSeam new n
  is_seam =
      record {
        on_ring = ring_decides es p pr d ∙ closing;
        is_last = λ j i.
            let l : j < length new = below_mem (length new) (chain_of new n).edges (each_once new proper_new n (at_last es p cl.x_end).inside).below j i in
            omega (arith, length_new es p);
      }

  off_x : {v : ℕ} → degree es v ≡ 2 → v ≢ x
  off_x {v} k q = let z : degree es x ≡ 2 = rw q at k in omega (arith, cl.x_leaf)

  off_y : {v : ℕ} → degree es v ≡ 2 → v ≢ y
  off_y {v} k q = let z : degree es y ≡ 2 = rw q at k in omega (arith, cl.y_leaf)

  kept : (v : ℕ) → v ≢ x → v ≢ y → Agrees m after v
  kept v a b = agrees_then (keep₁ v a) (keep₂ v b)

  -- ---- over the new edge

  over_new : OneLow after x y n
  unfolding low_of low_at
  over_new = go cl.by
    where
      to_n : (upx upy : Bool) → cl.upx ≡ upx → cl.upy ≡ upy → ((upx ≡ true) × (upy ≡ false)) ⊎ ((upx ≡ false) × (upy ≡ true)) → OneLow after x y n
      to_n upx upy a b (inl (i, j)) =
          let lx : low_at after x ≡ e = low_x ∙ ap (λ (t : Bool). low_of t at_x) (a ∙ i) in
          let ly : low_at after y ≡ n = low_y ∙ ap (λ (t : Bool). low_of t at_y) (b ∙ j) in
          second_low (λ z. e_n (sym lx ∙ z)) ly
      to_n upx upy a b (inr (i, j)) =
          let lx : low_at after x ≡ n = low_x ∙ ap (λ (t : Bool). low_of t at_x) (a ∙ i) in
          let ly : low_at after y ≡ c = low_y ∙ ap (λ (t : Bool). low_of t at_y) (b ∙ j) in
          first_low lx (λ z. c_n (sym ly ∙ z))

      go : EndLabels es m blocks x y e c cl.upx cl.upy cl.tx cl.ty res.blocks → OneLow after x y n
      go (born f a b t t' k) = to_n cl.upx cl.upy refl refl (inr (a, b))
      go (from_neighbours tx ty a dx b dy k) =
          let h = keeps_side es pr m old (across es e x pr cl.e_at).at cl.trail some in
          to_n cl.upx cl.upy refl refl (one_side cl.upx cl.upy _ _ e c dx dy h.0 h.1)
        where
          some : 1 ≤ length cl.passes
          some = count cl.passes cl.trail
            where
              count : (ss : List Pass) → Trail es e (far es e x) ss c y → 1 ≤ length ss
              count [] u = absurd (off_y tx (trail_nil u))
              count (b ∷ ss) u = omega arith

  -- ---- over the old edges

  x_old : Pairs new x (far es e x) e → Rise after x (far es e x) e
  unfolding label_at low_at low_of
  x_old q = go cl.by
    where
      go : EndLabels es m blocks x y e c cl.upx cl.upy cl.tx cl.ty res.blocks → Rise after x (far es e x) e
      go (born f a b t t' k) =
          let c_e : c ≡ e = sym (only_y e (subst (λ (z : ℕ). At es z e) f (across es e x pr cl.e_at).at)) in
          let lx : low_at after x ≡ n = low_x ∙ ap (λ (u : Bool). low_of u at_x) a in
          let ly : low_at after y ≡ c = low_y ∙ ap (λ (u : Bool). low_of u at_y) b in
          subst (λ (z : ℕ). Rise after x z e) (sym f) (up_to (λ z. e_n (sym z ∙ lx)) (ly ∙ c_e) (omega (arith, label_x, label_y, t, t')))
      go (from_neighbours tx ty a dx b dy k) =
          let w = kept (far es e x) (off_x tx) (off_y tx) in
          beside_neighbour after cl.upx _ x (far es e x) e at_x (label_x ∙ a) low_x w.label_same (rw w.low_same dx) (pos' x q.first_two) e_n refl

  y_old : Pairs new y (far es c y) c → Rise after y (far es c y) c
  unfolding label_at low_at low_of
  y_old q = go cl.by
    where
      go : EndLabels es m blocks x y e c cl.upx cl.upy cl.tx cl.ty res.blocks → Rise after y (far es c y) c
      go (born f a b t t' k) =
          let c_e : c ≡ e = sym (only_y e (subst (λ (z : ℕ). At es z e) f (across es e x pr cl.e_at).at)) in
          let far_y : far es c y ≡ x = rw (c_e, ← f) (across es e x pr cl.e_at).again in
          let lx : low_at after x ≡ n = low_x ∙ ap (λ (u : Bool). low_of u at_x) a in
          let ly : low_at after y ≡ c = low_y ∙ ap (λ (u : Bool). low_of u at_y) b in
          subst (λ (z : ℕ). Rise after y z c) (sym far_y) (rise_back after x y c (up_to (λ z. c_n (sym z ∙ lx)) ly (omega (arith, label_x, label_y, t, t'))))
      go (from_neighbours tx ty a dx b dy k) =
          let w = kept (far es c y) (off_x ty) (off_y ty) in
          beside_neighbour after cl.upy _ y (far es c y) c at_y (label_y ∙ b) low_y w.label_same (rw w.low_same dy) (pos' y q.first_two) c_n refl

  -- ---- all edges

  -- an edge at an end v of the new edge leads over it to the other end, or is its old edge
  at_end : (v u ev w j : ℕ) → ends_at v p ≡ 1 → ends_at u p ≡ 1 → v ≢ u → ((i : ℕ) → At es v i → i ≡ ev) → Pairs new v w j
      → ((j ≡ n) × (w ≡ u)) ⊎ ((j ≡ ev) × (w ≡ far es ev v))
  at_end v u ev w j ov ou vu only q = go (which es p j q.first_at.inside)
    where
      go : Which es p j → ((j ≡ n) × (w ≡ u)) ⊎ ((j ≡ ev) × (w ≡ far es ev v))
      go (is_new i) = to_end (two_ends p v u w ov ou vu (last_at es p (rw i at q.second_at)))
        where
          to_end : (w ≡ v) ⊎ (w ≡ u) → ((j ≡ n) × (w ≡ u)) ⊎ ((j ≡ ev) × (w ≡ far es ev v))
          to_end (inl z) = absurd (q.differ (sym z))
          to_end (inr z) = inl (i, z)
      go (is_old h) =
          let av : At es v j = at_old es p h q.first_at in
          let i : j ≡ ev = only j av in
          inr (i, other_end es j v w pr av (at_old es p h q.second_at) (λ z. q.differ (sym z)) ∙ ap (λ (k : ℕ). far es k v) i)

  from_x : (w j : ℕ) → Pairs new x w j → Step new after x w j
  from_x w j q = go (at_end x y e w j cl.x_end cl.y_end cl.x_y only_x q)
    where
      go : ((j ≡ n) × (w ≡ y)) ⊎ ((j ≡ e) × (w ≡ far es e x)) → Step new after x w j
      go (inl (i, z)) = rw (i, z) (seam is_seam over_new)
      go (inr (i, z)) = let q' : Pairs new x (far es e x) e = rw (i, z) at q in rw (i, z) (rises (x_old q'))

  from_y : (w j : ℕ) → Pairs new y w j → Step new after y w j
  from_y w j q = go (at_end y x c w j cl.y_end cl.x_end y_x only_y q)
    where
      go : ((j ≡ n) × (w ≡ x)) ⊎ ((j ≡ c) × (w ≡ far es c y)) → Step new after y w j
      go (inl (i, z)) = rw (i, z) (step_back (seam is_seam over_new))
      go (inr (i, z)) = let q' : Pairs new y (far es c y) c = rw (i, z) at q in rw (i, z) (rises (y_old q'))

  neither : (v : ℕ) → v ≢ x → v ≢ y → ends_at v p ≡ 0
  neither v a b = no_end p v d (λ o. cases (two_ends p x y v cl.x_end cl.y_end cl.x_y o))
    where
      cases : (v ≡ x) ⊎ (v ≡ y) → ⊥
      cases (inl z) = a z
      cases (inr z) = b z

  steps_after : (v w j : ℕ) → Pairs new v w j → Dec (v ≡ x) → Dec (v ≡ y) → Dec (w ≡ x) → Dec (w ≡ y) → Step new after v w j
  steps_after v w j q (yes z) a b i = subst (λ (u : ℕ). Step new after u w j) (sym z) (from_x w j (subst (λ (u : ℕ). Pairs new u w j) z q))
  steps_after v w j q (no z) (yes a) b i = subst (λ (u : ℕ). Step new after u w j) (sym a) (from_y w j (subst (λ (u : ℕ). Pairs new u w j) a q))
  steps_after v w j q (no z) (no a) (yes b) i = step_back (subst (λ (u : ℕ). Step new after u v j) (sym b) (from_x v j (pairs_back (subst (λ (u : ℕ). Pairs new v u j) b q))))
  steps_after v w j q (no z) (no a) (no b) (yes i) = step_back (subst (λ (u : ℕ). Step new after u v j) (sym i) (from_y v j (pairs_back (subst (λ (u : ℕ). Pairs new v u j) i q))))
  steps_after v w j q (no z) (no a) (no b) (no i) =
      step_as (kept v z a) (kept w b i) (s.steps v w j (pairs_old es p pr d q (neither v z a) (neither w b i)) (neither v z a) (neither w b i))

  low_after : (v : ℕ) → degree new v ≡ 2 → Dec (v ≡ x) → Dec (v ≡ y) → At new v (low_at after v)
  low_after v k (yes z) a = rw (z, low_x) (low_of_at new x cl.upx at_x (at_new es p cl.e_at) (at_last es p cl.x_end))
  low_after v k (no z) (yes a) = rw (a, low_y) (low_of_at new y cl.upy at_y (at_new es p cl.c_at) (at_last es p cl.y_end))
  low_after v k (no z) (no a) =
      let i = neither v z a in
      rw (kept v z a).low_same (at_new es p (s.low_at_lem v (two_old es p pr d v k i) i))

  -- one more edge that closes a ring keeps `Sided`
  pub sided_closed : Sided (es ++ (p ∷ [])) res.marks
  sided_closed = subst (λ (k : Marks). Sided new k) (sym cl.marks_is) (record {
    low_at_lem = λ v k. low_after v k (ℕ_discrete v x) (ℕ_discrete v y);
    steps = λ v w j q. steps_after v w j q (ℕ_discrete v x) (ℕ_discrete v y) (ℕ_discrete w x) (ℕ_discrete w y);
  })
