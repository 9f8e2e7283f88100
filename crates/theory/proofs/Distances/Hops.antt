-- For each way over the edges there is one over the chains that is not longer.
use mathlib.Core.Path.{◌≡◌, refl, sym, subst}
use Prim.Native.Nat.{ℕ, ◌+◌, ◌≤◌}
use native.Mathlib.Omega.{arith}
use native.Mathlib.Decide.{ℕ_discrete}
use mathlib.Core.Bool.{Bool, true, false}
use mathlib.Core.List.{List}
use Rattle.model.specs.Basics.{sum}
use Rattle.model.specs.Graph.{Edge, Pass, after_of, far, is_regular, length_at, lengths_of, turn}
use Rattle.model.specs.Distance.{ChainWay, Distance, Hop, IsDistance, LooseWay, Way, along, here, joined, last, not_joined, stay, stop}
use Rattle.model.proofs.Walks.Degree.{Proper, is_two}
use Rattle.model.proofs.Walks.Turn.{At, two_edges, turn_between}
use Rattle.model.proofs.Walks.Trail.{Trail, done, pass, next_edge, afters}
use Rattle.model.proofs.Walks.Joins.{joins_at, joins_far, Across, across, far_ne}
use Rattle.theory.proofs.Distances.HopTrails.{along_edges, HopTrail, hop_trail, chains_edges, loose_edges, chains_loose}
use Rattle.theory.proofs.Distances.TrailHops.{Ahead, hops, there, trail_ahead}

module _ (es : List Edge) (pr : Proper es) where
  -- along edge d to v, and on
  hop_to : {d v q w : ℕ} {ss : List Pass} → At es v d → Trail es d v ss q w → Ahead es (far es d v) w (along_edges es d ss)
  hop_to {d} {v} {q} {w} {ss} a u =
      let x : Across es d v = across es d v pr a in
      let u' : Trail es d (far es d (far es d v)) ss q w = rw x.again u in
      trail_ahead es pr (far es d v) x.at u'

  -- A way over the chains that stops at singular vertices only can set out one edge earlier.
  ahead_more : {v w m n : ℕ} → m ≤ n → Ahead es v w m → Ahead es v w n
  ahead_more h (there e) = there e
  ahead_more h (hops l b hp) = hops l (omega arith) hp

  -- a trail back along the edge itself
  returns : {d v q w : ℕ} {ss : List Pass} (l : ℕ) → At es v d → Trail es d v ss q w → l ≡ along_edges es d ss → Ahead es v w (length_at es d + l)
  unfolding along_edges sum lengths_of afters after_of
  returns l a done e = there refl
  returns {d} {v} l a (pass {ss = ss} t c e u) q = ahead_more (omega arith) (trail_ahead es pr v (next_edge es d v t pr a c e).at u)

  ahead : (d v w l : ℕ) → At es v d → is_regular es v ≡ true → Hop es v w l → Ahead es (far es d v) w (length_at es d + l)
  unfolding along_edges sum lengths_of afters after_of
  ahead d v w l a c hp = go (ℕ_discrete d t.edge)
    where
      t : HopTrail es v w l
      t = hop_trail es pr hp

      go : Dec (d ≡ t.edge) → Ahead es (far es d v) w (length_at es d + l)
      go (yes e) = returns l (across es d v pr a).at (rw (← e) at t.trail) (rw (← e) at t.len)
      go (no n) =
          let turns : turn es d v ≡ t.edge = turn_between es v d t.edge (two_edges es v pr (is_two es v c)) a t.at n in
          ahead_more (omega (arith, t.len)) (hop_to a (pass t.edge c turns t.trail))

  edge_ahead : (d v : ℕ) → At es v d → Ahead es (far es d v) v (length_at es d)
  unfolding along_edges sum lengths_of afters
  edge_ahead d v a = ahead_more (let z : length_at es d + 0 ≤ length_at es d = omega arith in z) (hop_to a done)

  -- a way over the chains of at most that length
  record Short (v w m : ℕ) : Type 0 where
    len : ℕ
    fits : len ≤ m
    way : ChainWay es v w len

  from_regular : {v w l : ℕ} (d : ℕ) → At es v d → is_regular es v ≡ true → ChainWay es v w l → Short (far es d v) w (length_at es d + l)
  from_regular {v} d a c stay = go (edge_ahead d v a)
    where
      go : Ahead es (far es d v) v (length_at es d) → Short (far es d v) v (length_at es d + 0)
      go (there q) = absurd (far_ne es d v pr a q)
      go (hops k b hp) = record { len = k; fits = omega arith; way = last hp }
  from_regular {v} {w} {l} d a c (last hp) = go (ahead d v w l a c hp)
    where
      go : Ahead es (far es d v) w (length_at es d + l) → Short (far es d v) w (length_at es d + l)
      go (there q) = record { len = 0; fits = omega arith; way = subst (λ (z : ℕ). ChainWay es (far es d v) z 0) q stay }
      go (hops k b hp') = record { len = k; fits = b; way = last hp' }
  from_regular {v} {w} d a c (stop {w = x} {k = k} {l = l} hp s t) = go (ahead d v x k a c hp)
    where
      go : Ahead es (far es d v) x (length_at es d + k) → Short (far es d v) w (length_at es d + (k + l))
      go (there q) = record { len = l; fits = omega arith; way = subst (λ (z : ℕ). ChainWay es z w l) (sym q) t }
      go (hops m b hp') = record { len = m + l; fits = omega arith; way = stop hp' s t }

  earlier : {v w l : ℕ} (d : ℕ) → At es v d → ChainWay es v w l → Short (far es d v) w (length_at es d + l)
  earlier {v} {w} {l} d a t = go (is_regular es v) refl
    where
      over : is_regular es v ≡ false → Ahead es (far es d v) v (length_at es d) → Short (far es d v) w (length_at es d + l)
      over c (there q) = absurd (far_ne es d v pr a q)
      over c (hops k b hp) = record { len = k + l; fits = omega arith; way = stop hp c t }

      go : (b : Bool) → is_regular es v ≡ b → Short (far es d v) w (length_at es d + l)
      go true c = from_regular d a c t
      go false c = over c (edge_ahead d v a)

  -- for every way over the edges there is one over the chains that is not longer
  edges_chains : {v w l : ℕ} → Way es v w l → Short v w l
  edges_chains here = record { len = 0; fits = omega arith; way = stay }
  edges_chains {v} (along {w = x} d h j t) =
      let s = edges_chains t in
      let r = earlier d (joins_at es d v x pr h j) s.way in
      record { len = r.len; fits = omega (arith, s.fits, r.fits); way = rw (joins_far es d v x pr h j) at r.way }

  -- so one distance is both, and that of the looser reading too
  pub chains_distance : (v w : ℕ) (a : Distance) → IsDistance (λ n. Way es v w n) a → IsDistance (λ n. ChainWay es v w n) a
  chains_distance v w (joined l) q =
      let s = edges_chains q.holds in
      let b = q.least s.len (chains_edges es pr s.way) in
      record { holds = subst (λ (n : ℕ). ChainWay es v w n) (let z : s.len ≡ l = omega (arith, s.fits, b) in z) s.way; least = λ k t. q.least k (chains_edges es pr t) }
  chains_distance v w not_joined q = λ k t. q k (chains_edges es pr t)

  -- the least length of a way over the edges is that of a way over the chains
  pub loose_distance : (v w : ℕ) (a : Distance) → IsDistance (λ n. Way es v w n) a → IsDistance (λ n. LooseWay es v w n) a
  loose_distance v w (joined l) q = record { holds = chains_loose (chains_distance v w (joined l) q).holds; least = λ k t. q.least k (loose_edges es pr t) }
  loose_distance v w not_joined q = λ k t. q k (loose_edges es pr t)
