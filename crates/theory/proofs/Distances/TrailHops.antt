-- For each trail there is a hop that is not longer, unless it leads back to where it set out: of the same length, but round a ring a trail
-- may go more than once.
use mathlib.Core.Path.{◌≡◌, refl, sym, ap, ◌∙◌, subst}
use mathlib.Core.Logic.{◌≢◌}
use Prim.Native.Nat.{ℕ, ◌≤◌}
use native.Mathlib.Omega.{arith}
use native.Mathlib.Decide.{ℕ_discrete}
use mathlib.Core.Bool.{Bool, true, false}
use mathlib.Core.List.Memᴰ
use mathlib.Core.List.Memᴰ.{head as at_head}
use mathlib.Core.List.{List, ◌∷◌, ◌++◌, append-nil, map, map-append, Memᴰ as Mem}
use lib.ListN.{length, length-append}
use Rattle.model.specs.Basics.{sum}
use Rattle.model.specs.Graph.{Edge, Pass, after_of, at_of, end_onwards, far, is_regular, lengths_of, edge_on_ring, once_round, onwards, turn, until, walk}
use Rattle.model.specs.Distance.{Hop, arc, backwards as other_way, length_via, reach, stretch, whole_chain}
use Rattle.model.proofs.Walks.Degree.{Proper}
use Rattle.model.proofs.Walks.Turn.{At}
use Rattle.model.proofs.Walks.Trail.{Behind, Trail, behind_first, trail_back, trail_walk, trail_at, trail_end_of, afters}
use Rattle.model.proofs.Walks.Places.{Off}
use Rattle.model.proofs.Walks.Ended.{first_short, first_unique, off_part, off_tail, trail_short}
use Rattle.model.proofs.Walks.Returns.{ended_ring}
use Rattle.model.proofs.Walks.Round.{First, Meets, Onward, first_time, meets, meets_or, misses, round_turn, until_append, until_no, until_yes, walk_onward}
use Rattle.model.proofs.Basics.Lists.{sum_append}
use Rattle.model.proofs.Walks.Joins.{joins_of, Across, across}
use Rattle.theory.proofs.Distances.HopTrails.{along_edges, along_back}

pub hop_same : {es : List Edge} {v w w' l l' : ℕ} → w ≡ w' → l ≡ l' → Hop es v w l → Hop es v w' l'
hop_same {es} {v} {w} {w'} {l} {l'} a b h = subst (λ (n : ℕ). Hop es v n l') a (subst (λ (n : ℕ). Hop es v w n) b h)

-- what lies ahead of v on the way to w, of length m at most
pub data Ahead (es : List Edge) (v w m : ℕ) : Type 0 where
  there : v ≡ w → Ahead es v w m
  hops : (l : ℕ) → l ≤ m → Hop es v w l → Ahead es v w m

-- the first part of a trail is not longer than the whole
pub along_part : (es : List Edge) (d : ℕ) (front rest : List Pass) → along_edges es d front ≤ along_edges es d (front ++ rest)
unfolding along_edges afters sum lengths_of
along_part es d front rest =
    omega (arith, ap (λ (l : List ℕ). sum (lengths_of es l)) (map-append after_of front rest), sum_append es (map after_of front) (map after_of rest))

module _ (es : List Edge) (pr : Proper es) where
  ends_singular : {d q w : ℕ} {ss : List Pass} (v : ℕ) → At es v d → Trail es d (far es d v) ss q w → is_regular es w ≡ false → Hop es v w (along_edges es d ss)
  unfolding end_onwards onwards length_via along_edges afters
  ends_singular {d} {q} {w} {ss} v a u c = go (is_regular es v) refl
    where
      x : Across es d v
      x = across es d v pr a

      k : walk (length es) es d (far es d v) ≡ ss
      k = trail_walk (length es) u c (omega (arith, trail_short es pr x.at u c))

      e₁ : end_onwards es d (far es d v) ≡ w
      e₁ = rw k (trail_end_of u)

      e₂ : length_via es d (far es d v) ≡ along_edges es d ss
      e₂ = rw k refl

      no_ring : edge_on_ring es d ≡ false
      no_ring = ended_ring es pr d a.inside (far es d v) x.at (record { passes = ss; onto = q; to = w; trail = u; singular = c })

      go : (b : Bool) → is_regular es v ≡ b → Hop es v w (along_edges es d ss)
      go true r = hop_same e₁ e₂ (reach d a.inside (joins_of es d v pr a) r no_ring)
      go false r = hop_same e₁ e₂ (whole_chain d a.inside (joins_of es d v pr a) r)

  -- from a regular vertex to another, which is met for the first time: the one where it sets out is not met before
  first_off : {d q v w : ℕ} {ss : List Pass} → At es v d → is_regular es v ≡ true → Trail es d (far es d v) ss q w → Off ss w → v ≢ w → Off ss v
  first_off {d} {q} {v} {w} {ss} a c u o n = go (meets_or v u)
    where
      -- behind v it would set out along d once more
      again : (front : List Pass) (onto : ℕ) (rest : List Pass) → ss ≡ front ++ rest → Off rest w → turn es onto v ≡ d → Behind es onto v rest q w → ⊥
      again front onto rest p ow t b =
          let z : Trail es d (far es d v) b.rest q w = rw t at b.trail in
          let m = ap length (first_unique u o z (off_tail (subst (λ (x : List Pass). Off x w) b.parts ow))) in
          omega (arith, m, ap length p, length-append front rest, ap length b.parts)

      go : Meets es d (far es d v) ss q w v → Off ss v
      go (misses f) = f
      go (meets front rest onto p f b of l) =
          absurd (again front onto rest p (off_part front rest w (subst (λ (x : List Pass). Off x w) p o)) (round_turn es pr a c f of) (behind_first b l))

  -- so it is what is passed on the way round before w
  pub record Before (d v w : ℕ) (ss : List Pass) : Type 0 where
    pub passed : Mem w (map at_of (once_round es d v))
    pub before_is : until w (once_round es d v) ≡ ss

  -- what such a trail passes is what the walk once round passes before w
  pub before : {d q v w : ℕ} {ss : List Pass} → At es v d → Trail es d (far es d v) ss q w → Off ss w → is_regular es w ≡ true → is_regular es v ≡ true → v ≢ w
      → Before d v w ss
  unfolding once_round onwards at_of
  before {d} {q} {v} {w} {ss} a u o c c' n =
      record {
        passed = rw (round_is, map-append at_of ss (g.next ∷ until v g.rest)) (Memᴰ.append_right (map at_of ss) (at_head (sym g.next_at)));
        before_is = ap (λ (l : List Pass). until w l) round_is ∙ until_append w ss (g.next ∷ until v g.rest) o
            ∙ ap (λ (l : List Pass). ss ++ l) (until_yes w g.next (until v g.rest) g.next_at) ∙ append-nil ss;
      }
    where
      g : Onward es d (far es d v) ss w (length es)
      g = walk_onward (length es) u c (first_short es pr (across es d v pr a).at u o)

      round_is : until v (walk (length es) es d (far es d v)) ≡ ss ++ (g.next ∷ until v g.rest)
      round_is =
          ap (λ (l : List Pass). until v l) g.walk_is ∙ until_append v ss (g.next ∷ g.rest) (first_off a c' u o n)
          ∙ ap (λ (l : List Pass). ss ++ l) (until_no v g.next g.rest (λ z. n (sym z ∙ g.next_at)))

  between : {d q w : ℕ} {ss : List Pass} (v : ℕ) → At es v d → Trail es d (far es d v) ss q w → Off ss w → is_regular es w ≡ true → is_regular es v ≡ true → v ≢ w
      → Hop es v w (along_edges es d ss)
  unfolding along_edges afters arc
  between {d} {q} {w} {ss} v a u o c c' n =
      let b : Before d v w ss = before a u o c c' n in
      hop_same refl (ap (λ (l : List Pass). along_edges es d l) b.before_is) (stretch d a.inside (joins_of es d v pr a) c' b.passed)

  -- for every trail from v to w there is a hop that is not longer, or w is v
  pub trail_ahead : {d q w : ℕ} {ss : List Pass} (v : ℕ) → At es v d → Trail es d (far es d v) ss q w → Ahead es v w (along_edges es d ss)
  trail_ahead {d} {q} {w} {ss} v a u = go (is_regular es w) (is_regular es v) refl refl
    where
      x : Across es d v
      x = across es d v pr a

      regular : is_regular es w ≡ true → is_regular es v ≡ true → Dec (v ≡ w) → Ahead es v w (along_edges es d ss)
      regular c c' (yes e) = there e
      regular c c' (no n) =
          let f : First es d (far es d v) ss q w = first_time u in
          hops (along_edges es d f.front) (subst (λ (l : List Pass). along_edges es d f.front ≤ along_edges es d l) (sym f.parts) (along_part es d f.front f.rest))
          (between v a f.trail f.off c c' n)

      go : (m n : Bool) → is_regular es w ≡ m → is_regular es v ≡ n → Ahead es v w (along_edges es d ss)
      go false n c c' = hops (along_edges es d ss) (omega arith) (ends_singular v a u c)
      go true true c c' = regular c c' (ℕ_discrete v w)
      go true false c c' =
          hops (along_edges es d ss) (omega arith)
          (hop_same refl (along_back u) (other_way (ends_singular w (trail_at pr x.at u) (rw x.again at (trail_back pr x.at u)) c')))
