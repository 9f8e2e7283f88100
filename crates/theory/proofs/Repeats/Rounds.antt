-- What the round of a vertex was before the last edge: a round too, or a chain between two leaves, with no more edges.
use mathlib.Core.Path.{◌≡◌, refl, subst}
use mathlib.Core.Logic.{◌≢◌, ◌⊎◌, inl, inr}
use Prim.Native.Nat.{ℕ, suc, ◌+◌, ◌≤◌}
use native.Mathlib.Omega.{arith}
use mathlib.Core.Bool.{false}
use mathlib.Core.List.Memᴰ.{cases_cons as mem-cases}
use mathlib.Core.List.Memᴰ.{head as at_head}
use mathlib.Core.List.Memᴰ.{not-nil as mem-nil}
use mathlib.Core.List.{List, [], ◌∷◌, ◌++◌, Memᴰ as Mem}
use lib.ListN.{length, length-append, length-map}
use Rattle.model.specs.Graph.{Edge, Pass, after_of, degree, ends_at, far, is_regular}
use Rattle.model.proofs.Basics.Counting.{AllBelow, Distinct, below_more}
use Rattle.model.proofs.Basics.Total.{distinct_within}
use Rattle.model.proofs.Walks.Degree.{Proper, degree_snoc, ends_at_le, not_two, two_is, leaf_singular, proper_snoc}
use Rattle.model.proofs.Walks.Turn.{At, two_edges, turn_between}
use Rattle.model.proofs.Walks.Joins.{Across, across}
use Rattle.model.proofs.Walks.Trail.{Trail, done, pass, Next, next_edge, afters, backwards, length_backwards, trail_append, trail_at, trail_back}
use Rattle.model.proofs.Walks.NewEdge.{at_new, old_edge, length_new}
use Rattle.model.proofs.Walks.Ended.{Ended, trail_distinct, trail_below}
use Rattle.model.proofs.Walks.Returns.{Returns, ends_or_returns, returns_back}
use Rattle.model.proofs.Walks.Round.{Round, returns_round}
use Rattle.model.proofs.Walks.Loops.{last_on}
use Rattle.model.proofs.Walks.Tours.{Tour, is_x, end_on, edge_on, tour_two, tour_distinct, tour_below, tour_follow, q_at, q_not_d}
use Rattle.theory.proofs.Repeats.Before.{ToLeaf, TwoLeaves, edges_between}

-- v is regular without the edge, and with it v has a round, along d and back on q
module _ (es : List Edge) (p : Edge) (pr : Proper es) (ne : p.first ≢ p.second) {v d q : ℕ} {path : List Pass} (t : Tour (es ++ (p ∷ [])) v d q path) (c : degree es v ≡ 2) where
  abbrev prn : Proper (es ++ (p ∷ []))
  prn = proper_snoc es p pr ne

  abbrev edges : List ℕ
  edges = d ∷ afters path

  not_end : ends_at v p ≡ 0
  not_end = omega (arith, degree_snoc es p v, t.two)

  -- the round has its first edge
  pub d_in : Mem d edges
  d_in = at_head refl

  d_old : At es v d
  d_old = old_edge es p v d not_end t.d_at

  xd : Across es d v
  xd = across es d v pr d_old

  q_in : Mem q edges
  q_in = last_on t.trail

  q_old : At es v q
  q_old = old_edge es p v q not_end (q_at prn t)

  xq : Across es q v
  xq = across es q v pr q_old

  -- ---- a walk before the edge keeps to the round

  -- a walk before the edge keeps to the round
  pub stays : {e w r z : ℕ} {ss : List Pass} → Mem e edges → At es w e → Trail es e w ss r z → (k : ℕ) → Mem k (e ∷ afters ss) → Mem k edges
  unfolding afters after_of
  stays {e} m a done k n = go (mem-cases n)
    where
      go : (k ≡ e) ⊎ Mem k [] → Mem k edges
      go (inl i) = rw i m
      go (inr i) = absurd (mem-nil i)
  stays {e} {w} m a (pass {ss = ss} f r tn u) k n = go (mem-cases n) (λ i. stays next nx.across.at u k i)
    where
      nx : Next es e w f
      nx = next_edge es e w f pr a r tn

      next : Mem f edges
      next = edge_on prn t w f (end_on prn t e w m (at_new es p a)) (at_new es p nx.at)

      go : (k ≡ e) ⊎ Mem k (f ∷ afters ss) → (Mem k (f ∷ afters ss) → Mem k edges) → Mem k edges
      go (inl i) ih = rw i m
      go (inr i) ih = ih i

  -- so, if it ends, it ends at a leaf: at an end of the edge
  ends_leaf : {e w r z : ℕ} {ss : List Pass} → Mem e edges → At es w e → Trail es e w ss r z → is_regular es z ≡ false → degree es z ≡ 1
  ends_leaf {r = r} {z = z} m a u s =
      let on : degree (es ++ (p ∷ [])) z ≡ 2 = tour_two prn t z (end_on prn t r z (stays m a u r (last_on u)) (at_new es p (trail_at pr a u))) in
      omega (arith, degree_snoc es p z, ends_at_le z p ne, not_two es z s)

  leaf_of : (e : ℕ) → Mem e edges → At es (far es e v) e → Ended es e (far es e v) → ToLeaf es e (far es e v)
  leaf_of e m a w = record { passes = w.passes; onto = w.onto; to = w.to; trail = w.trail; leaf = ends_leaf m a w.trail w.singular }

  -- ---- it has no more edges than the round

  no_more : {e w r z : ℕ} {ss : List Pass} → Mem e edges → At es w e → Trail es e w ss r z → Distinct (e ∷ afters ss) → length ss ≤ length path
  unfolding afters
  no_more {e} {ss = ss} m a u distinct =
      let old : AllBelow (suc (length es)) (e ∷ afters ss) = below_more (length es) (e ∷ afters ss) (trail_below es pr a u) in
      let all : AllBelow (suc (length es)) edges = subst (λ (n : ℕ). AllBelow n edges) (length_new es p) (tour_below prn t) in
      omega (arith, distinct_within (suc (length es)) (e ∷ afters ss) edges distinct old all (stays m a u), length-map ss after_of, length-map path after_of)

  -- the whole way from leaf to leaf
  module _ (b : TwoLeaves es d q v) where
    abbrev there : ToLeaf es d (far es d v)
    there = b.one

    abbrev back : ToLeaf es q (far es q v)
    back = b.other

    at_leaf : At es (far es back.onto back.to) back.onto
    at_leaf = (across es back.onto back.to pr (trail_at pr xq.at back.trail)).at

    turn_at_v : Trail es q v (record { before = q; at = v; after = d } ∷ []) d (far es d v)
    turn_at_v = pass d (two_is es v c) (turn_between es v q d (two_edges es v pr c) q_old d_old (q_not_d prn t)) done

    whole : Trail es back.onto (far es back.onto back.to) ((backwards back.passes ++ (record { before = q; at = v; after = d } ∷ [])) ++ there.passes) there.onto there.to
    whole =
        let home : Trail es back.onto (far es back.onto back.to) (backwards back.passes) q v = rw xq.again at (trail_back pr xq.at back.trail) in
        trail_append (trail_append home turn_at_v) there.trail

    leaves_short : edges_between b ≤ length path + 1
    leaves_short =
        let m : List Pass = backwards back.passes ++ (record { before = q; at = v; after = d } ∷ []) in
        let onto_in : Mem back.onto edges = stays q_in xq.at back.trail back.onto (last_on back.trail) in
        let few = no_more onto_in at_leaf whole (trail_distinct es pr at_leaf whole (leaf_singular es there.to there.leaf)) in
        omega (
          arith,
          few,
          length-append m there.passes,
          length-append (backwards back.passes) (record { before = q; at = v; after = d } ∷ []),
          length_backwards back.passes,
        )

  -- ---- all together

  -- what the round was before the edge
  pub data Was : Type 0 where
    was_round : (q' : ℕ) (path' : List Pass) → Tour es v d q' path' → length path' ≤ length path → Was
    was_open : (b : TwoLeaves es d q v) → edges_between b ≤ length path + 1 → Was

  -- where a walk from v comes back, v has a round
  tour_of : (e : ℕ) → At es v e → Returns es e (far es e v) → (q' : ℕ) × (path' : List Pass) × Tour es v e q' path'
  tour_of e a r =
      let x : Across es e v = across es e v pr a in
      let b : Returns es e v = subst (λ (w : ℕ). Returns es e w) x.again (returns_back es pr e (far es e v) x.at r) in
      let o : Round es e v = returns_round es pr e v a b in
      (o.last, _, record { two = c; d_at = a; trail = o.trail; off = o.off })

  -- the round was one before the edge too, or a chain between two leaves
  pub was : Was
  was = go (ends_or_returns es pr d (far es d v) xd.at) (ends_or_returns es pr q (far es q v) xq.at)
    where
      round_was : (q' : ℕ) × (path' : List Pass) × Tour es v d q' path' → Was
      round_was (q', path', r) = was_round q' path' r (no_more d_in xd.at r.trail (tour_distinct pr r))

      open_was : Ended es d (far es d v) → Ended es q (far es q v) → Was
      open_was a b = let k : TwoLeaves es d q v = record { one = leaf_of d d_in xd.at a; other = leaf_of q q_in xq.at b } in was_open k (leaves_short k)

      no_mix : (q' : ℕ) × (path' : List Pass) × Tour es v q q' path' → Ended es d (far es d v) → ⊥
      no_mix (q', path', r) a = not_two es a.to a.singular (tour_two pr r a.to (tour_follow pr r (edge_on pr r v d (is_x refl) d_old) xd.at a.trail))

      go : Ended es d (far es d v) ⊎ Returns es d (far es d v) → Ended es q (far es q v) ⊎ Returns es q (far es q v) → Was
      go (inr a) b = round_was (tour_of d d_old a)
      go (inl a) (inl b) = open_was a b
      go (inl a) (inr b) = absurd (no_mix (tour_of q q_old b) a)
