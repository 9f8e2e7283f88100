-- Between two vertices of a ring: the two arcs make up the ring, and the distance is the shorter of them.
use mathlib.Core.Path.{◌≡◌, refl, sym, ap, ◌∙◌, subst}
use mathlib.Core.Logic.{◌≢◌, ◌⊎◌, inl, inr}
use Prim.Native.Nat.{ℕ, ◌+◌, ◌≤◌, ◌<◌, min}
use native.Mathlib.Omega.{arith}
use mathlib.Core.Bool.{true, false}
use mathlib.Core.List.Memᴰ.{cases_cons as mem-cases}
use mathlib.Core.List.{List, [], ◌∷◌, ◌++◌, map, map-append, reverse-reverse, Memᴰ as Mem}
use lib.ListN.{length}
use Rattle.model.specs.Basics.{sum}
use Rattle.model.specs.Graph.{Edge, Pass, after_of, at_of, chain_of, edge_at, edge_on_ring, far, incident, is_regular, lengths_of, once_round, turn}
use Rattle.model.specs.Distance.{ChainWay, Distance, Hop, IsDistance, arc, distance, joined, last, not_joined, stay, stop, stretch}
use Rattle.model.specs.Notions.{ShorterWay}
use Rattle.model.proofs.Basics.Booleans.{not_both}
use Rattle.model.proofs.Basics.Lists.{mem_reverse, pair_are, sum_append}
use Rattle.model.proofs.Walks.Degree.{Proper, is_two}
use Rattle.model.proofs.Walks.Turn.{At, TwoEdges, two_edges, turn_between}
use Rattle.model.proofs.Walks.Joins.{Across, across, joins_of}
use Rattle.model.proofs.Walks.Trail.{Behind, Next, Trail, afters, backwards, behind_first, next_edge, trail_at, trail_back}
use Rattle.model.proofs.Walks.Places.{Off, Once, off_mem, once_head, once_tail, ith_mem}
use Rattle.model.proofs.Walks.Once.{first_at_once}
use Rattle.model.proofs.Walks.Returns.{ended_ring}
use Rattle.model.proofs.Walks.Round.{First, Meets, Round, first_time, meets, meets_or, misses, ring_round}
use Rattle.model.proofs.Walks.Loops.{SameLoop, loop_both, loop_regular, loop_ring, loop_edges, loop_inner, loops_same}
use Rattle.model.proofs.Chains.Same.{ats_back}
use Rattle.model.proofs.Chains.Partition.{first_at, own_round, ring_inner}
use Rattle.model.proofs.Chains.Reaches.{one_length, ring_length}
use Rattle.model.proofs.Distances.Distance.{is_distance}
use Rattle.theory.proofs.Distances.HopTrails.{HopTrail, along_back, along_edges, hop_trail}
use Rattle.theory.proofs.Distances.TrailHops.{along_part, before}
use Rattle.theory.proofs.Distances.Hops.{chains_distance}

once_part : (front rest : List Pass) → Once (front ++ rest) → Once rest
once_part [] rest o = o
once_part (s ∷ front) rest o = once_part front rest (once_tail s (front ++ rest) o)

off_back : (ss : List Pass) (w : ℕ) → Off ss w → Off (backwards ss) w
off_back ss w o i s j q =
    let m : Mem w (map at_of (backwards ss)) = ith_mem j q in
    off_mem ss w o (rw (ats_back ss, reverse-reverse (map at_of ss)) at (mem_reverse w (map at_of (backwards ss)) m))

module _ (es : List Edge) (pr : Proper es) (v w : ℕ) (n : v ≢ w) (cv : is_regular es v ≡ true) (cw : is_regular es w ≡ true) where
  -- an arc is a trail to w for the first time
  arc_is : {e q : ℕ} {ss : List Pass} → At es v e → Trail es e (far es e v) ss q w → Off ss w → arc es e v w ≡ along_edges es e ss
  unfolding arc along_edges afters
  arc_is {e} {q} {ss} a u o = ap (λ (l : List Pass). along_edges es e l) (before es pr a u o cw cv n).before_is

  -- no trail is shorter
  arc_least : {e q : ℕ} {ss : List Pass} → At es v e → Trail es e (far es e v) ss q w → arc es e v w ≤ along_edges es e ss
  arc_least {e} {q} {ss} a u =
      let f : First es e (far es e v) ss q w = first_time u in
      let p = subst (λ (l : List Pass). along_edges es e f.front ≤ along_edges es e l) (sym f.parts) (along_part es e f.front f.rest) in
      omega (arith, arc_is a f.trail f.off, p)

  module _ (c d : ℕ) (ac : At es v c) (ad : At es v d) (cd : c ≢ d) (t : edge_on_ring es c ≡ true) (m : Mem w (map at_of (once_round es c v))) where
    k : Round es c v
    k = ring_round es pr c v t ac

    last_is : k.last ≡ d
    last_is = sym k.back ∙ turn_between es v c d (two_edges es v pr (is_two es v cv)) ac ad cd

    -- the two arcs make up the ring
    arcs_add : arc es c v w + arc es d v w ≡ sum (lengths_of es (loop_edges es c v))
    unfolding along_edges afters sum lengths_of after_of
    arcs_add = go (meets_or w k.trail)
      where
        x : Across es c v
        x = across es c v pr ac

        behind : (front rest : List Pass) (onto : ℕ) → once_round es c v ≡ front ++ rest → Trail es c (far es c v) front onto w → Off front w
            → Behind es onto w rest k.last v → arc es c v w + arc es d v w ≡ sum (lengths_of es (loop_edges es c v))
        behind front rest onto p u o b =
            let at_w : At es w onto = trail_at pr x.at u in
            let nx : Next es onto w (turn es onto w) = next_edge es onto w (turn es onto w) pr at_w b.regular refl in
            let z : Trail es d (far es d v) (backwards b.rest) (turn es onto w) w = rw (last_is, nx.across.again) at (trail_back pr nx.across.at b.trail) in
            let one : Once rest = once_part front rest (subst (λ (l : List Pass). Once l) p (first_at_once es pr x.at k.trail k.off)) in
            let off : Off b.rest w = once_head _ b.rest (subst (λ (l : List Pass). Once l) b.parts one) in
            let whole : afters (once_round es c v) ≡ afters front ++ (turn es onto w ∷ afters b.rest) =
            ap afters p ∙ map-append after_of front rest ∙ ap (λ (l : List Pass). afters front ++ afters l) b.parts in
            omega (
              arith,
              arc_is ac u o,
              arc_is ad z (off_back b.rest w off),
              ap (λ (j : ℕ). along_edges es j (backwards b.rest)) last_is,
              along_back b.trail,
              ap (λ (l : List ℕ). sum (lengths_of es l)) whole,
              sum_append es (afters front) (turn es onto w ∷ afters b.rest),
            )

        go : Meets es c (far es c v) (once_round es c v) k.last v w → arc es c v w + arc es d v w ≡ sum (lengths_of es (loop_edges es c v))
        go (misses o) = absurd (off_mem (once_round es c v) w o m)
        go (meets front rest onto p u b o l) = behind front rest onto p u o (behind_first b l)

module _ (es : List Edge) (pr : Proper es) (e v w : ℕ) (h : e < length es) (t : edge_on_ring es e ≡ true)
    (mv : Mem v (chain_of es e).inner) (mw : Mem w (chain_of es e).inner) (n : v ≢ w) where
  v₀ : ℕ
  v₀ = (edge_at es e).first

  at₀ : At es v₀ e
  unfolding v₀
  at₀ = first_at es pr e h

  k₀ : Round es e v₀
  unfolding v₀
  k₀ = own_round es pr e h t

  on_loop : (x : ℕ) → Mem x (chain_of es e).inner → Mem x (loop_inner es e v₀)
  unfolding v₀
  on_loop x m = subst (λ (l : List ℕ). Mem x l) (ring_inner es pr e t) m

  regular : (x : ℕ) → Mem x (chain_of es e).inner → is_regular es x ≡ true
  regular x m = loop_regular es pr e v₀ at₀ k₀ x (on_loop x m)

  two : TwoEdges es v
  two = two_edges es v pr (is_two es v (regular v mv))

  module _ (c : ℕ) (a : At es v c) where
    on_e : Mem c (loop_edges es e v₀)
    on_e = loop_both es pr e v₀ at₀ k₀ v c (on_loop v mv) a

    ring_c : edge_on_ring es c ≡ true
    ring_c = loop_ring es pr e v₀ at₀ k₀ c on_e

    passed : Mem w (map at_of (once_round es c v))
    passed = go (mem-cases (s.inner_in w (on_loop w mw)))
      where
        s : SameLoop es pr e v₀ c v
        s = loops_same es pr e v₀ c v at₀ k₀ a (ring_round es pr c v ring_c a) on_e

        go : (w ≡ v) ⊎ Mem w (map at_of (once_round es c v)) → Mem w (map at_of (once_round es c v))
        go (inl q) = absurd (n (sym q))
        go (inr m) = m

    way : ChainWay es v w (arc es c v w)
    way = last (stretch c a.inside (joins_of es c v pr a) (regular v mv) passed)

  x : ℕ
  x = arc es two.low v w

  y : ℕ
  y = arc es two.high v w

  -- a hop from v goes along one of its edges, and is at least as long as that arc
  hop_least : {l : ℕ} → Hop es v w l → min x y ≤ l
  unfolding x y
  hop_least {l} hp = go (two.only o.edge o.at)
    where
      o : HopTrail es v w l
      o = hop_trail es pr hp

      least : arc es o.edge v w ≤ l
      least = omega (arith, arc_least es pr v w n (regular v mv) (regular w mw) o.at o.trail, o.len)

      go : (o.edge ≡ two.low) ⊎ (o.edge ≡ two.high) → min (arc es two.low v w) (arc es two.high v w) ≤ l
      go (inl q) = omega (arith, ap (λ (j : ℕ). arc es j v w) q, least)
      go (inr q) = omega (arith, ap (λ (j : ℕ). arc es j v w) q, least)

  -- none leads to a singular vertex
  no_stop : {z l : ℕ} → Hop es v z l → is_regular es z ≡ false → ⊥
  no_stop {z} {l} hp c =
      let o : HopTrail es v z l = hop_trail es pr hp in
      let b : Across es o.edge v = across es o.edge v pr o.at in
      not_both (edge_on_ring es o.edge) (ring_c o.edge o.at)
      (ended_ring es pr o.edge o.at.inside _ b.at (record { passes = o.passes; onto = o.onto; to = z; trail = o.trail; singular = c }))

  way_least : {z l : ℕ} → v ≢ z → z ≡ w → ChainWay es v z l → min x y ≤ l
  way_least ne q stay = absurd (ne refl)
  way_least {z} {l} ne q (last hp) = hop_least (subst (λ (j : ℕ). Hop es v j l) q hp)
  way_least ne q (stop hp c u) = absurd (no_stop hp c)

  is_shorter : (a : Distance) → IsDistance (λ l. ChainWay es v w l) a → a ≡ joined (min x y)
  unfolding x y
  is_shorter not_joined none = absurd (none _ (way two.low two.low_at_lem))
  is_shorter (joined l) q =
      ap joined (let z : l ≡ min (arc es two.low v w) (arc es two.high v w) =
      omega (arith, way_least n refl q.holds, q.least _ (way two.low two.low_at_lem), q.least _ (way two.high two.high_at)) in z)

  shorter_two : ShorterWay es e v w two.low two.high
  unfolding x y
  shorter_two =
      let ne : two.low ≢ two.high = λ q. omega (arith, two.differ) in
      record {
        add_up = arcs_add es pr v w n (regular v mv) (regular w mw) two.low two.high two.low_at_lem two.high_at ne (ring_c two.low two.low_at_lem) (passed two.low two.low_at_lem)
            ∙ sym (ring_length es pr two.low v two.low_at_lem (ring_c two.low two.low_at_lem)) ∙ one_length es pr two.low e v h mv two.low_at_lem;
        distance_is = is_shorter (distance es v w) (chains_distance es pr v w (distance es v w) (is_distance es v w));
      }

  -- the distance between two vertices of a ring is the shorter of its two arcs
  pub shorter_way : (c d : ℕ) → incident es v ≡ c ∷ d ∷ [] → ShorterWay es e v w c d
  shorter_way c d q =
      let i = pair_are (sym q ∙ two.list) in
      rw (i.0, i.1) shorter_two
