-- A hop is a trail of the same length, so a way over the chains is one over the edges.
use mathlib.Core.Path.{◌≡◌, refl, sym, ap, ◌∙◌, subst}
use mathlib.Core.Logic.{◌⊎◌, inl, inr}
use Prim.Native.Nat.{ℕ, ◌+◌, ◌<◌}
use native.Mathlib.Omega.{arith}
use native.Mathlib.Decide.{ℕ_discrete}
use mathlib.Core.List.Memᴰ.{cases_cons as mem-cases}
use mathlib.Core.List.Memᴰ.{not-nil as mem-nil}
use mathlib.Core.List.{List, ◌∷◌, map, [], Memᴰ as Mem}
use lib.ListN.{length}
use Rattle.model.specs.Basics.{sum}
use Rattle.model.specs.Graph.{Edge, Pass, after_of, at_of, edge_at, end_onwards, far, lengths_of, once_round, onwards, until, walk}
use Rattle.model.specs.Distance.{ChainWay, Hop, Joins, LooseWay, Way, backwards as other_way, here, hop, last, length_via, reach, stay, stop, stretch, whole_chain, along, arc}
use Rattle.model.proofs.Basics.Lists.{sum_reverse}
use Rattle.model.proofs.Walks.Degree.{Proper}
use Rattle.model.proofs.Walks.Turn.{At}
use Rattle.model.proofs.Walks.Joins.{joins_at, joins_of, joins_far, Across, across, joins_back}
use Rattle.model.proofs.Walks.Trail.{Trail, trail_back, backwards, walked, trail_at, trail_end_of, afters, afters_back, done, pass, Next, next_edge}
use Rattle.model.proofs.Walks.Round.{until_no, until_yes}
use Rattle.model.proofs.Distances.Distance.{way_same, way_append}

-- ---- lengths
unfoldable pub along_edges : List Edge → ℕ → List Pass → ℕ
along_edges es d ss = sum (lengths_of es (d ∷ afters ss))

-- the way back has the same length
pub along_back : {es : List Edge} {d v q w : ℕ} {ss : List Pass} → Trail es d v ss q w → along_edges es q (backwards ss) ≡ along_edges es d ss
unfolding along_edges
along_back {es} {d} {ss = ss} u = ap (λ (l : List ℕ). sum (lengths_of es l)) (afters_back u) ∙ sum_reverse es (d ∷ afters ss)

-- what a trail passes before it comes to a vertex is a trail
pub record Part (es : List Edge) (d w : ℕ) (ss : List Pass) : Type 0 where
  pub onto : ℕ
  pub to : ℕ
  pub trail : Trail es d w ss onto to

until_part : {es : List Edge} {d w q z : ℕ} {ss : List Pass} (v : ℕ) → Trail es d w ss q z → Part es d w (until v ss)
unfolding until
until_part {d = d} {w = w} v done = record { onto = d; to = w; trail = done }
until_part {es} {d} {w} v (pass {ss = ss} t c e u) = go (ℕ_discrete w v) (until_part v u)
  where
    now : Pass
    now = record { before = d; at = w; after = t }

    go : Dec (w ≡ v) → Part es t (far es t w) (until v ss) → Part es d w (until v (now ∷ ss))
    go (yes i) r = rw (until_yes v now ss i) (record { onto = d; to = w; trail = done })
    go (no n) r = rw (until_no v now ss n) (record { onto = r.onto; to = r.to; trail = pass t c e r.trail })

-- and it leads to that vertex, if the trail passes it
record To (es : List Edge) (d w : ℕ) (ss : List Pass) (x : ℕ) : Type 0 where
  onto : ℕ
  trail : Trail es d w ss onto x

until_to : {es : List Edge} {d w q z : ℕ} {ss : List Pass} (x : ℕ) → Trail es d w ss q z → Mem x (map at_of ss) → To es d w (until x ss) x
unfolding at_of
until_to x done m = absurd (mem-nil m)
until_to {es} {d} {w} x (pass {ss = ss} t c e u) m = go (ℕ_discrete w x) (mem-cases m) (λ n. until_to x u n)
  where
    now : Pass
    now = record { before = d; at = w; after = t }

    go : Dec (w ≡ x) → (x ≡ w) ⊎ Mem x (map at_of ss) → (Mem x (map at_of ss) → To es t (far es t w) (until x ss) x) → To es d w (until x (now ∷ ss)) x
    go (yes i) k ih = rw (until_yes x now ss i) (record { onto = d; trail = subst (λ (y : ℕ). Trail es d w [] d y) i done })
    go (no n) (inl k) ih = absurd (n (sym k))
    go (no n) (inr k) ih = let r = ih k in rw (until_no x now ss n) (record { onto = r.onto; trail = pass t c e r.trail })

-- ---- a hop is a trail
pub record HopTrail (es : List Edge) (v w l : ℕ) : Type 0 where
  pub edge : ℕ
  pub passes : List Pass
  pub onto : ℕ
  pub at : At es v edge
  pub trail : Trail es edge (far es edge v) passes onto w
  pub len : l ≡ along_edges es edge passes

module _ (es : List Edge) (pr : Proper es) where
  on_trail : (d v w : ℕ) → d < length es → Joins (edge_at es d) v w → HopTrail es v (end_onwards es d w) (length_via es d w)
  unfolding end_onwards onwards length_via along_edges afters
  on_trail d v w h j =
      let b : Joins (edge_at es d) w v = joins_back (edge_at es d) v w j in
      let u = walked (length es) es d w in
      record {
        edge = d;
        passes = walk (length es) es d w;
        onto = u.onto;
        at = joins_at es d w v pr h b;
        trail = rw (joins_far es d w v pr h b, trail_end_of u.trail) u.trail;
        len = refl;
      }

  stretch_trail : (d v w x : ℕ) → d < length es → Joins (edge_at es d) v w → Mem x (map at_of (once_round es d v)) → HopTrail es v x (arc es d v x)
  unfolding once_round onwards arc along_edges afters
  stretch_trail d v w x h j m =
      let p = until_part v (walked (length es) es d (far es d v)).trail in
      let r = until_to x p.trail m in
      record {
        edge = d;
        passes = until x (until v (walk (length es) es d (far es d v)));
        onto = r.onto;
        at = joins_at es d w v pr h (joins_back (edge_at es d) v w j);
        trail = r.trail;
        len = refl;
      }

  hop_trail_back : {v w l : ℕ} → HopTrail es v w l → HopTrail es w v l
  hop_trail_back {v} t =
      let x : Across es t.edge v = across es t.edge v pr t.at in
      record {
        edge = t.onto;
        passes = backwards t.passes;
        onto = t.edge;
        at = trail_at pr x.at t.trail;
        trail = rw x.again at (trail_back pr x.at t.trail);
        len = t.len ∙ sym (along_back t.trail);
      }

  -- every hop is a trail of its length
  pub hop_trail : {v w l : ℕ} → Hop es v w l → HopTrail es v w l
  hop_trail (whole_chain d h j c) = on_trail d _ _ h j
  hop_trail (reach d h j c nr) = on_trail d _ _ h j
  hop_trail (stretch d h j c m) = stretch_trail d _ _ _ h j m
  hop_trail (other_way h) = hop_trail_back (hop_trail h)

  -- a trail is a way
  trail_way : {x d v q w : ℕ} {ss : List Pass} → At es v d → Joins (edge_at es d) x v → Trail es d v ss q w → Way es x w (along_edges es d ss)
  unfolding along_edges sum lengths_of afters after_of
  trail_way {x} {d} a j done = along d a.inside j here
  trail_way {x} {d} {v} a j (pass {ss = ss} t c e u) =
      let nx : Next es d v t = next_edge es d v t pr a c e in
      along d a.inside j (trail_way {x = v} nx.across.at (joins_of es t v pr nx.at) u)

  -- so a hop is one, of the same length
  hop_way : {v w l : ℕ} → Hop es v w l → Way es v w l
  hop_way {v} h =
      let t = hop_trail h in
      way_same (sym t.len) (trail_way (across es t.edge v pr t.at).at (joins_of es t.edge v pr t.at) t.trail)

  -- every way over the chains is one over the edges, of the same length, whatever its stops
  pub chains_edges : {v w l : ℕ} → ChainWay es v w l → Way es v w l
  chains_edges stay = here
  chains_edges (last h) = hop_way h
  chains_edges (stop h c t) = way_append (hop_way h) (chains_edges t)

  -- every way over the chains, whatever its stops, is one over the edges, as long
  pub loose_edges : {v w l : ℕ} → LooseWay es v w l → Way es v w l
  loose_edges stay = here
  loose_edges (hop h t) = way_append (hop_way h) (loose_edges t)

-- a way that stops at singular vertices is one with any stops
pub chains_loose : {es : List Edge} {v w l : ℕ} → ChainWay es v w l → LooseWay es v w l
chains_loose stay = stay
chains_loose {es} {v} {w} {l} (last h) = subst (λ (n : ℕ). LooseWay es v w n) (let z : l + 0 ≡ l = omega arith in z) (hop h stay)
chains_loose (stop h c t) = hop h (chains_loose t)
