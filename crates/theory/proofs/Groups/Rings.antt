-- A ring is a whole closed group: all edges of the group lie on the round. So an untapped ring has the credit that pays for a tap.
use mathlib.Core.Path.{◌≡◌, refl, sym, ap, ◌∙◌, subst}
use mathlib.Core.Logic.{◌≢◌, ◌⊎◌, inl, inr}
use Prim.Native.Nat.{ℕ, zero, suc, ◌+◌, ◌-◌, ◌<◌}
use native.Mathlib.Omega.{arith}
use native.Mathlib.Decide.{ℕ_discrete}
use mathlib.Core.Bool.{true, false}
use mathlib.Core.List.Memᴰ.{head as at_head}
use mathlib.Core.List.{List, [], ◌∷◌, ◌++◌, Memᴰ as Mem}
use lib.ListN.{length, length-append}
use Rattle.model.specs.Graph.{Edge, Pass, degree, far}
use Rattle.model.proofs.Basics.Booleans.{true_or_false}
use Rattle.model.proofs.Walks.Degree.{Proper}
use Rattle.model.proofs.Walks.Turn.{At}
use Rattle.model.proofs.Walks.Joins.{across, other_end}
use Rattle.model.proofs.Walks.Trail.{Trail, afters, trail_append}
use Rattle.model.proofs.Walks.Tours.{Tour, OnTour, end_on, edge_on, tour_two, tour_on}
use Rattle.theory.proofs.Groups.Shape.{Shape, size, NextRound, Courses, place_fits}
use Rattle.theory.proofs.Groups.Flip.{flip_low, flip_courses}
use Rattle.theory.proofs.Groups.Climb.{Climb, climb}

-- a group with a singular vertex
pub record CutIn (es : List Edge) (h : Shape) (g : ℕ) : Type 0 where
  pub vertex : ℕ
  pub edge : ℕ
  pub at : At es vertex edge
  pub group_is : h.group edge ≡ g
  pub cut : degree es vertex ≢ 2

-- a closed group that has no credit is cut somewhere: it is no ring
abbrev pub Cuts : List Edge → Shape → Type 0
Cuts es h = (e : ℕ) → e < length es → h.is_open (h.group e) ≡ false → h.is_ring (h.group e) ≡ false → CutIn es h (h.group e)

module _ {es : List Edge} (pr : Proper es) {relabellings : ℕ} {h : Shape} (w : Courses es relabellings h) {x d q : ℕ} {path : List Pass} (ro : Tour es x d q path) where
  g : ℕ
  g = h.group d

  -- ---- an open course is no ring
  open_up : {s : Shape} → Courses es relabellings s → s.low d ≡ x → s.is_open (s.group d) ≡ true → ⊥
  open_up {s} v lo o =
      let u : Trail es d (far es d x) (path ++ (record { before = q; at = x; after = d } ∷ [])) d (far es d x) = trail_append ro.trail (tour_on pr ro) in
      let c : Climb es s d (path ++ (record { before = q; at = x; after = d } ∷ [])) d = climb es pr v ro.d_at.inside (ap (λ (z : ℕ). far es d z) lo) o u in
      omega (arith, c.rise, length-append path (record { before = q; at = x; after = d } ∷ []))

  pub not_open : h.is_open (h.group d) ≡ true → ⊥
  not_open o = go (ℕ_discrete (h.low d) x)
    where
      go : Dec (h.low d ≡ x) → ⊥
      go (yes e) = open_up w e o
      go (no e) =
          let k : h.low d ≡ far es d x = other_end es d x (h.low d) pr ro.d_at (w.ends d ro.d_at.inside) e in
          open_up (flip_courses es pr w (h.group d) o)
          (flip_low es h (h.group d) d refl ∙ ap (λ (z : ℕ). far es d z) k ∙ (across es d x pr ro.d_at).again) o

  -- ---- a closed one: from place to place, and round
  module _ (shut : h.is_open (h.group d) ≡ false) where
    record Reached (i : ℕ) : Type 0 where
      edge : ℕ
      on : Mem edge (d ∷ afters path)
      inside : edge < length es
      group_is : h.group edge ≡ h.group d
      place_is : h.place edge ≡ i

    abbrev s : ℕ
    s = size h (length es) (h.group d)

    data Next (i : ℕ) : Type 0 where
      up : Reached (suc i) → Next i
      again : suc i ≡ s → Reached 0 → Next i

    next : (i : ℕ) → Reached i → Next i
    next i r = go n.place_is
      where
        v : ℕ
        v = far es r.edge (h.low r.edge)

        a : At es v r.edge
        a = (across es r.edge (h.low r.edge) pr (w.ends r.edge r.inside)).at

        on_v : OnTour pr ro v
        on_v = end_on pr ro r.edge v r.on a

        n : NextRound es h r.edge
        n = w.round r.edge r.inside (rw r.group_is shut) (tour_two pr ro v on_v)

        reached : (k : ℕ) → h.place n.hi ≡ k → Reached k
        reached k e = record {
          edge = n.hi;
          on = edge_on pr ro v n.hi on_v n.hi_at;
          inside = n.hi_at.inside;
          group_is = n.hi_group ∙ r.group_is;
          place_is = e;
        }

        go : (h.place n.hi ≡ suc (h.place r.edge)) ⊎ ((suc (h.place r.edge) ≡ size h (length es) (h.group r.edge)) × (h.place n.hi ≡ 0)) → Next i
        go (inl e) = up (reached (suc i) (omega (arith, e, r.place_is)))
        go (inr e) = again (omega (arith, e.0, r.place_is, ap (size h (length es)) r.group_is)) (reached 0 e.1)

    climbs : (k i : ℕ) → Reached i → i + k < s → Reached (i + k)
    climbs zero i r l = subst (λ (z : ℕ). Reached z) (let e : i ≡ i + 0 = omega arith in e) r
    climbs (suc k) i r l = go (next (i + k) (climbs k i r (omega arith)))
      where
        go : Next (i + k) → Reached (i + suc k)
        go (up t) = subst (λ (z : ℕ). Reached z) (let e : suc (i + k) ≡ i + suc k = omega arith in e) t
        go (again e t) = absurd (omega (arith, e, l))

    start : Reached (h.place d)
    start = record { edge = d; on = at_head refl; inside = ro.d_at.inside; group_is = refl; place_is = refl }

    below : h.place d < s
    below = w.fits d ro.d_at.inside

    last : ℕ
    last = h.place d + (s - suc (h.place d))

    bottom : Reached 0
    unfolding last
    bottom = go (next last (climbs (s - suc (h.place d)) (h.place d) start (omega (arith, below))))
      where
        go : Next last → Reached 0
        go (again e t) = t
        go (up t) = absurd (omega (arith, below, t.place_is, place_fits w t.edge (h.group d) t.inside t.group_is))

    -- every edge of the group lies on the round
    pub all_on : (c : ℕ) → c < length es → h.group c ≡ h.group d → Mem c (d ∷ afters path)
    all_on c l e =
        let r = climbs (h.place c) 0 bottom (omega (arith, place_fits w c (h.group d) l e)) in
        let c_is : r.edge ≡ c = w.apart r.edge c r.inside l (r.group_is ∙ sym e) (omega (arith, r.place_is)) in
        subst (λ (z : ℕ). Mem z (d ∷ afters path)) c_is r.on

    pub not_cut : CutIn es h (h.group d) → ⊥
    not_cut k = k.cut (tour_two pr ro k.vertex (end_on pr ro k.edge k.vertex (all_on k.edge k.at.inside k.group_is) k.at))

  -- the group of a ring is closed
  pub shut_round : h.is_open (h.group d) ≡ false
  shut_round = go (true_or_false (h.is_open (h.group d)))
    where
      go : (h.is_open (h.group d) ≡ true) ⊎ (h.is_open (h.group d) ≡ false) → h.is_open (h.group d) ≡ false
      go (inl o) = absurd (not_open o)
      go (inr o) = o

  -- so it is a ring of the ghost state, with its credit
  pub ring_round : Cuts es h → h.is_ring (h.group d) ≡ true
  ring_round k = go (true_or_false (h.is_ring (h.group d)))
    where
      go : (h.is_ring (h.group d) ≡ true) ⊎ (h.is_ring (h.group d) ≡ false) → h.is_ring (h.group d) ≡ true
      go (inl r) = r
      go (inr r) = absurd (not_cut shut_round (k d ro.d_at.inside shut_round r))

  -- and a vertex at an edge of its group lies on it
  pub vertex_on : (v c : ℕ) → At es v c → h.group c ≡ h.group d → OnTour pr ro v
  vertex_on v c a e = end_on pr ro c v (all_on shut_round c a.inside e) a
