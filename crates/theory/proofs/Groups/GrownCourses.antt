-- The groups after one more edge are courses again, and what they spent is paid.
use mathlib.Core.Path.{◌≡◌, refl, sym, ◌∙◌}
use mathlib.Core.Logic.{◌≢◌}
use Prim.Native.Nat.{ℕ, ◌+◌, ◌*◌, ◌≤◌, ◌<◌}
use native.Mathlib.Omega.{arith}
use native.Mathlib.Decide.{ℕ_discrete, dec_lt}
use mathlib.Core.Bool.{true, false}
use mathlib.Core.List.{[], ◌∷◌, ◌++◌}
use lib.ListN.{length}
use Rattle.model.specs.Basics.{floor_log}
use Rattle.model.specs.Graph.{same}
use Rattle.model.proofs.Walks.NewEdge.{length_new, at_new, at_last, Which, is_new, is_old, which}
use Rattle.model.proofs.Walks.Turn.{At}
use Rattle.theory.proofs.Groups.Shape.{size, pick_yes, pick_no, size_none, Courses, place_fits, spent_fresh}
use Rattle.theory.proofs.Groups.Grown.{grown, Growth, grown_to, goes_to, goes_by, Goes, follows, stays, goes, seen_new, seen_old, seen_y, seen_o, size_x, size_o, goes_room, low_old, open_gx, open_o, ring_gx, ring_o}
use Rattle.theory.proofs.Groups.GrownEnds.{leaf', between'}
use Rattle.theory.proofs.Groups.GrownRounds.{round'}
use Rattle.model.proofs.Basics.Counting.{same_eq, same_ne}
use Rattle.model.proofs.Basics.Total.{total, total_same, total_add, total_zero, total_one}

module _ (it : Growth) where
  open it use {es, p, relabellings, h, w, gx, gy, x, k, b, r, s}
  open grown_to it use {new, h'}

  -- which edges, groups and places
  below' : (e : ℕ) → e < length new → h'.group e < length new
  below' e l = go (which es p e l)
    where
      inner : e < length es → Goes it (h.group e) → goes_to it (h.group e) < length new
      inner i (follows q t c) = omega (arith, t, length_new es p, s.high.gx_in)
      inner i (stays q t c) = omega (arith, t, length_new es p, w.below e i)

      go : Which es p e → h'.group e < length new
      go (is_new i) = rw (i, (seen_new it).group_is) (omega (arith, length_new es p, s.high.gx_in))
      go (is_old i) = rw (seen_old it e _ i refl).group_is (inner i (goes it (h.group e)))

  fits' : (e : ℕ) → e < length new → h'.place e < size h' (length new) (h'.group e)
  fits' e l = go (which es p e l)
    where
      go : Which es p e → h'.place e < size h' (length new) (h'.group e)
      go (is_new i) = rw (i, (seen_new it).group_is, (seen_new it).place_is, size_x it) (omega arith)
      go (is_old i) = let o = seen_old it e _ i refl in rw (o.group_is, o.place_is) (omega (arith, goes_room it (h.group e), w.fits e i))

  -- no old edge is where the new one is
  old_new : (e : ℕ) → e < length es → h'.group e ≡ gx → h'.place e ≡ size h (length es) gx → ⊥
  old_new e i q t = go (ℕ_discrete (h.group e) gy)
    where
      go : Dec (h.group e ≡ gy) → ⊥
      go (yes r) = omega (arith, t, (seen_y it e i r).place_is)
      go (no r) = let o = seen_o it e _ r i refl in omega (arith, t, o.place_is, place_fits w e gx i (sym o.group_is ∙ q))

  two_old : (e c : ℕ) → e < length es → c < length es → goes_to it (h.group e) ≡ goes_to it (h.group c) → goes_by it (h.group e) + h.place e ≡ goes_by it (h.group c) + h.place c → e ≡ c
  two_old e c i j g t = go (goes it (h.group e)) (goes it (h.group c))
    where
      go : Goes it (h.group e) → Goes it (h.group c) → e ≡ c
      go (follows q u a) (follows r v b) = w.apart e c i j (q ∙ sym r) (omega (arith, t, a, b))
      go (follows q u a) (stays r v b) = absurd (omega (arith, t, a, b, place_fits w c gx j (sym v ∙ sym g ∙ u)))
      go (stays q u a) (follows r v b) = absurd (omega (arith, t, a, b, place_fits w e gx i (sym u ∙ g ∙ v)))
      go (stays q u a) (stays r v b) = w.apart e c i j (sym u ∙ g ∙ v) (omega (arith, t, a, b))

  apart' : (e c : ℕ) → e < length new → c < length new → h'.group e ≡ h'.group c → h'.place e ≡ h'.place c → e ≡ c
  apart' e c l m g t = go (which es p e l) (which es p c m)
    where
      group_new : (e : ℕ) → e ≡ length es → h'.group e ≡ gx
      group_new e i = rw i (seen_new it).group_is

      place_new : (e : ℕ) → e ≡ length es → h'.place e ≡ size h (length es) gx
      place_new e i = rw i (seen_new it).place_is

      go : Which es p e → Which es p c → e ≡ c
      go (is_new i) (is_new j) = i ∙ sym j
      go (is_new i) (is_old j) = absurd (old_new c j (sym g ∙ group_new e i) (sym t ∙ place_new e i))
      go (is_old i) (is_new j) = absurd (old_new e i (g ∙ group_new c j) (t ∙ place_new c j))
      go (is_old i) (is_old j) =
          let o = seen_old it e _ i refl in
          let u = seen_old it c _ j refl in
          two_old e c i j (sym o.group_is ∙ g ∙ u.group_is) (sym o.place_is ∙ t ∙ u.place_is)

  ends' : (e : ℕ) → e < length new → At new (h'.low e) e
  ends' e l = go (which es p e l)
    where
      go : Which es p e → At new (h'.low e) e
      go (is_new i) = rw (i, (seen_new it).low_is) (at_last es p s.high.x_end)
      go (is_old i) = rw (low_old it e i) (at_new es p (w.ends e i))

  -- what is spent
  gy_none : size h' (length new) gy ≡ 0
  gy_none = size_none h' (length new) gy (λ e l q. go e q (which es p e l))
    where
      inner : (e : ℕ) → goes_to it (h.group e) ≡ gy → Goes it (h.group e) → ⊥
      inner e q (follows r t c) = s.differ (sym t ∙ q)
      inner e q (stays r t c) = r (sym t ∙ q)

      go : (e : ℕ) → h'.group e ≡ gy → Which es p e → ⊥
      go e q (is_new i) = s.differ (sym (let z : h'.group e ≡ gx = rw i (seen_new it).group_is in z) ∙ q)
      go e q (is_old i) = inner e (sym (seen_old it e _ i refl).group_is ∙ q) (goes it (h.group e))

  spent_x : h'.spent gx ≡ h.spent gx + h.spent gy + k
  unfolding grown
  spent_x = pick_yes gx gx _ _ refl

  spent_y : h'.spent gy ≡ 0
  unfolding grown
  spent_y = pick_no gy gx _ _ (λ z. s.differ (sym z)) ∙ pick_yes gy gy _ _ refl

  spent_o : (g : ℕ) → g ≢ gx → g ≢ gy → h'.spent g ≡ h.spent g
  unfolding grown
  spent_o g q r = pick_no g gx _ _ q ∙ pick_no g gy _ _ r

  cost' : (g : ℕ) → h'.spent g ≤ size h' (length new) g * floor_log (size h' (length new) g)
  cost' g = go (ℕ_discrete g gx) (ℕ_discrete g gy)
    where
      go : Dec (g ≡ gx) → Dec (g ≡ gy) → h'.spent g ≤ size h' (length new) g * floor_log (size h' (length new) g)
      go (yes q) c = rw (q, size_x it, spent_x) s.pays
      go (no q) (yes r) = rw (r, spent_y) (omega arith)
      go (no q) (no r) = rw (size_o it g q r, spent_o g q r) (w.cost g)

  cost_open' : (g : ℕ) → h'.is_open g ≡ true → h'.spent g + size h' (length new) g ≤ size h' (length new) g * floor_log (size h' (length new) g) + 1
  cost_open' g t = go (ℕ_discrete g gx) (ℕ_discrete g gy)
    where
      go : Dec (g ≡ gx) → Dec (g ≡ gy) → h'.spent g + size h' (length new) g ≤ size h' (length new) g * floor_log (size h' (length new) g) + 1
      go (yes q) c = rw (q, size_x it, spent_x) (s.pays_open (sym (open_gx it) ∙ (let t' : h'.is_open gx ≡ true = rw q at t in t')))
      go (no q) (yes r) = rw (r, spent_y, gy_none) (omega arith)
      go (no q) (no r) = rw (size_o it g q r, spent_o g q r) (w.cost_open g (sym (open_o it g q) ∙ t))

  cost_ring' : (g : ℕ) → h'.is_ring g ≡ true → h'.spent g + size h' (length new) g ≤ size h' (length new) g * floor_log (size h' (length new) g) + 1
  cost_ring' g t = go (ℕ_discrete g gx) (ℕ_discrete g gy)
    where
      go : Dec (g ≡ gx) → Dec (g ≡ gy) → h'.spent g + size h' (length new) g ≤ size h' (length new) g * floor_log (size h' (length new) g) + 1
      go (yes q) c = rw (q, size_x it, spent_x) (s.pays_ring (sym (ring_gx it) ∙ (let t' : h'.is_ring gx ≡ true = rw q at t in t')))
      go (no q) (yes r) = rw (r, spent_y, gy_none) (omega arith)
      go (no q) (no r) = rw (size_o it g q r, spent_o g q r) (w.cost_ring g (sym (ring_o it g q) ∙ t))

  ring_shut' : (g : ℕ) → h'.is_ring g ≡ true → h'.is_open g ≡ false
  ring_shut' g t = go (ℕ_discrete g gx)
    where
      go : Dec (g ≡ gx) → h'.is_open g ≡ false
      go (yes q) = rw q (open_gx it ∙ s.ring_shut (sym (ring_gx it) ∙ (let t' : h'.is_ring gx ≡ true = rw q at t in t')))
      go (no q) = open_o it g q ∙ w.ring_shut g (sym (ring_o it g q) ∙ t)

  each_spent : (g : ℕ) → h'.spent g + same gy g * h.spent gy ≡ h.spent g + same gx g * (h.spent gy + k)
  each_spent g = go (ℕ_discrete gx g) (ℕ_discrete gy g)
    where
      go : Dec (gx ≡ g) → Dec (gy ≡ g) → h'.spent g + same gy g * h.spent gy ≡ h.spent g + same gx g * (h.spent gy + k)
      go (yes q) (yes r) = absurd (s.differ (q ∙ sym r))
      go (yes q) (no r) = rw (same_eq gx g q, same_ne gy g r, ← q, spent_x) (omega arith)
      go (no q) (yes r) = rw (same_ne gx g q, same_eq gy g r, ← r, spent_y) (omega arith)
      go (no q) (no r) = rw (same_ne gx g q, same_ne gy g r, spent_o g (λ z. q (sym z)) (λ z. r (sym z))) (omega arith)

  y_spent : (m : ℕ) → length new ≤ m → total m (λ g. same gy g * h.spent gy) ≡ h.spent gy
  y_spent m l = go (dec_lt gy m)
    where
      go : Dec (gy < m) → total m (λ g. same gy g * h.spent gy) ≡ h.spent gy
      go (yes q) = total_one m gy (λ g. h.spent gy) q
      go (no q) =
          let z : h.spent gy ≡ 0 = spent_fresh w gy (omega (arith, length_new es p)) in
          rw z (total_same m (λ g. same gy g * 0) (λ g. 0) (λ g i. omega arith) ∙ total_zero m)

  sums' : (m : ℕ) → length new ≤ m → total m h'.spent ≡ relabellings + k
  sums' m l =
      let old : total m h.spent ≡ relabellings = w.sums m (omega (arith, length_new es p)) in
      let all : total m (λ g. h'.spent g + same gy g * h.spent gy) ≡ total m (λ g. h.spent g + same gx g * (h.spent gy + k)) = total_same m _ _ (λ g i. each_spent g) in
      omega (
        arith,
        old,
        all,
        total_add m h'.spent (λ g. same gy g * h.spent gy),
        total_add m h.spent (λ g. same gx g * (h.spent gy + k)),
        y_spent m l,
        total_one m gx (λ g. h.spent gy + k) (omega (arith, length_new es p, s.high.gx_in)),
      )

  -- the groups after one more edge are courses, and have paid
  pub grown_courses : Courses (es ++ (p ∷ [])) (relabellings + k) (grown h (length es) gx gy x k b r)
  grown_courses = record {
    below = below';
    fits = fits';
    apart = apart';
    ends = ends';
    leaf_open = λ z e c a. (leaf' it z e c a).is_open;
    leaf = λ z e c a. (leaf' it z e c a).stands;
    between = between' it;
    round = round' it;
    ring_shut = ring_shut';
    cost = cost';
    cost_open = cost_open';
    cost_ring = cost_ring';
    sums = sums';
  }
