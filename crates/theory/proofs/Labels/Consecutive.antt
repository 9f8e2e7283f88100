-- The labels of a chain are consecutive: read from one of its ends to the other they rise by 1, and each low edge is the one before.
use mathlib.Core.Path.{◌≡◌, refl, sym, ap, ◌∙◌, subst}
use mathlib.Core.Logic.{◌≢◌, ◌⊎◌, inl, inr}
use Prim.Native.Nat.{ℕ, suc, ◌≤◌, ◌<◌}
use native.Mathlib.Omega.{arith}
use native.Mathlib.Decide.{ℕ_discrete}
use mathlib.Core.Bool.{true, false}
use mathlib.Core.List.{List, [], ◌∷◌, ◌++◌, map}
use lib.ListN.{length, length-map}
use Rattle.model.specs.Basics.{count_from}
use Rattle.model.specs.Graph.{Chain, Edge, Pass, after_of, at_of, chain_of, far, is_regular, edge_on_ring}
use Rattle.model.specs.Labels.{Marks}
use Rattle.model.specs.Register.{Register, marks_of}
use Rattle.model.specs.Notions.{Upwards, reversed}
use Rattle.model.proofs.Basics.Booleans.{not_both}
use Rattle.model.proofs.Walks.Degree.{Proper, is_two}
use Rattle.model.proofs.Walks.Turn.{At, two_edges, turn_between}
use Rattle.model.proofs.Walks.Joins.{Across, across, far_ne}
use Rattle.model.proofs.Walks.Trail.{Trail, done, pass, Front, front, first, nothing, Next, next_edge, afters}
use Rattle.model.proofs.Walks.Returns.{ended_ring, first_regular}
use Rattle.model.proofs.Chains.Same.{line_chain, Line, LineOf}
use Rattle.model.proofs.Chains.Partition.{own_line}
use Rattle.model.proofs.Chains.Exact.{line_back, line_back_chain}
use Rattle.model.proofs.Labels.Following.{label_at, low_at}
use Rattle.theory.proofs.Labels.Rise.{IsSeam, OneLow, Rise, Sided, Step, down_to, first_low, rises, seam, second_low, step_low, up_to}

module _ (es : List Edge) (pr : Proper es) (m : Marks) (s : Sided es m) where
  -- the labels and low edges of what is passed, where they rise on the way
  pub record Ascends (d v : ℕ) (ss : List Pass) (q : ℕ) : Type 0 where
    pub labels_are : map (label_at m) (map at_of ss) ≡ count_from (label_at m v) (length ss)
    pub lows_are : map (low_at m) (map at_of ss) ++ (q ∷ []) ≡ d ∷ afters ss

  -- no edge between two of the path is the last of a ring
  abbrev pub Plain : List Pass → Type 0
  Plain [] = Unit {0}
  Plain (b ∷ []) = Unit {0}
  Plain (b ∷ b' ∷ ss) = (IsSeam es b.after → ⊥) × Plain (b' ∷ ss)

  plain_tail : (b : Pass) (ss : List Pass) → Plain (b ∷ ss) → Plain ss
  plain_tail b [] p = tt
  plain_tail b (b' ∷ ss) p = p.1

  plain_first : (b b' : Pass) (rest ss : List Pass) → ss ≡ b' ∷ rest → Plain (b ∷ ss) → IsSeam es b.after → ⊥
  plain_first b b' rest ss q p = let p' : Plain (b ∷ b' ∷ rest) = rw q at p in p'.0

  -- from a regular vertex v along its edge t to the next one
  step : (v t : ℕ) → is_regular es v ≡ true → At es v t → is_regular es (far es t v) ≡ true → Step es m v (far es t v) t
  step v t c a c' =
      s.steps v (far es t v) t (record {
        first_two = is_two es v c;
        second_two = is_two es (far es t v) c';
        first_at = a;
        second_at = (across es t v pr a).at;
        differ = λ e. far_ne es t v pr a (sym e);
      })

  rise : (v t : ℕ) → is_regular es v ≡ true → At es v t → is_regular es (far es t v) ≡ true → (IsSeam es t → ⊥) → Rise m v (far es t v) t
  rise v t c a c' n = go (step v t c a c')
    where
      go : Step es m v (far es t v) t → Rise m v (far es t v) t
      go (rises r) = r
      go (seam k l) = absurd (n k)

  -- if the first low edge is the one before, so are the others
  on_up : (v d t : ℕ) → low_at m v ≡ d → t ≢ d → Rise m v (far es t v) t → (low_at m (far es t v) ≡ t) × (label_at m (far es t v) ≡ suc (label_at m v))
  on_up v d t l n (up_to a b e) = (b, e)
  on_up v d t l n (down_to a b e) = absurd (n (sym a ∙ l))

  -- along a trail whose first low edge is the one before, the labels rise by 1
  pub ascends : {d v q w : ℕ} {ss : List Pass} → At es v d → Trail es d v ss q w → Plain ss → (1 ≤ length ss → low_at m v ≡ d) → Ascends d v ss q
  unfolding count_from afters at_of after_of
  ascends a done p l = record { labels_are = refl; lows_are = refl }
  ascends {d} {v} {q} {w} a (pass {ss = ss} t c e u) p l =
      let r : Ascends t (far es t v) ss q = ascends nx.across.at u (plain_tail now ss p) (λ h. next_low (front u) h) in
      record {
        labels_are = ap (λ (ls : List ℕ). label_at m v ∷ ls) (go (front u) r.labels_are);
        lows_are = rw (l (omega arith)) (ap (λ (ls : List ℕ). d ∷ ls) r.lows_are);
      }
    where
      now : Pass
      now = record { before = d; at = v; after = t }

      nx : Next es d v t
      nx = next_edge es d v t pr a c e

      o : is_regular es (far es t v) ≡ true → (IsSeam es t → ⊥) → (low_at m (far es t v) ≡ t) × (label_at m (far es t v) ≡ suc (label_at m v))
      o c' n = on_up v d t (l (omega arith)) nx.other (rise v t c nx.at c' n)

      next_low : Front es t (far es t v) ss w → 1 ≤ length ss → low_at m (far es t v) ≡ t
      next_low (nothing z _) h = absurd (let k : 1 ≤ 0 = rw z at h in omega arith)
      next_low (first b rest z _ _ c') h = (o c' (plain_first now b rest ss z p)).0

      go : Front es t (far es t v) ss w → map (label_at m) (map at_of ss) ≡ count_from (label_at m (far es t v)) (length ss)
          → map (label_at m) (map at_of ss) ≡ count_from (suc (label_at m v)) (length ss)
      go (nothing z _) h = rw z refl
      go (first b rest z _ _ c') h = h ∙ ap (λ (n : ℕ). count_from n (length ss)) (o c' (plain_first now b rest ss z p)).1

  -- if the first low edge is the one after, so is the last
  data Falls (d v q w : ℕ) : Type 0 where
    nothing_passed : q ≡ d → w ≡ v → Falls d v q w
    to_last : low_at m (far es q w) ≡ q → Falls d v q w

  on_down : (v t : ℕ) → low_at m v ≡ t → OneLow m v (far es t v) t → low_at m (far es t v) ≢ t
  on_down v t l (second_low a b) = absurd (a l)
  on_down v t l (first_low a b) = b

  falls : {d v q w : ℕ} {ss : List Pass} → At es v d → Trail es d v ss q w → (is_regular es v ≡ true → low_at m v ≢ d) → Falls d v q w
  falls a done l = nothing_passed refl refl
  falls {d} {v} {q} {w} a (pass t c e u) l = go (falls nx.across.at u (λ c'. on_down v t low_t (step_low (step v t c nx.at c'))))
    where
      nx : Next es d v t
      nx = next_edge es d v t pr a c e

      low_t : low_at m v ≡ t
      low_t = sym (turn_between es v d (low_at m v) (two_edges es v pr (is_two es v c)) a (s.low_at_lem v (is_two es v c)) (λ x. l c (sym x))) ∙ e

      go : Falls t (far es t v) q w → Falls d v q w
      go (nothing_passed x y) = to_last (rw (x, y, nx.across.again) low_t)
      go (to_last x) = to_last x

  -- on a chain no edge is the last of a ring
  plain_line : {d v q w : ℕ} {ss : List Pass} → At es v d → Trail es d v ss q w → is_regular es w ≡ false → Plain ss
  plain_line a done j = tt
  plain_line {d} {v} {q} {w} a (pass {ss = ss} t c e u) j = go ss u (plain_line nx.across.at u j)
    where
      nx : Next es d v t
      nx = next_edge es d v t pr a c e

      go : (ss : List Pass) → Trail es t (far es t v) ss q w → Plain ss → Plain (record { before = d; at = v; after = t } ∷ ss)
      go [] u p = tt
      go (b ∷ ss) u p = (
        λ k. not_both (edge_on_ring es t) k.on_ring
            (ended_ring es pr t nx.at.inside (far es t v) nx.across.at (record { passes = b ∷ ss; onto = q; to = w; trail = u; singular = j })),
        p,
      )

  -- a line is read upwards from its start or from its stop
  line_ascends : (l : Line es) → (is_regular es (far es l.first l.start) ≡ true → low_at m (far es l.first l.start) ≡ l.first)
      → Ascends l.first (far es l.first l.start) l.passes l.last
  line_ascends l k =
      let x : Across es l.first l.start = across es l.first l.start pr l.at in
      ascends x.at l.trail (plain_line x.at l.trail l.stops) (λ h. k (first_regular l.trail h))

  other_ascends : (l : Line es) → low_at m (far es l.first l.start) ≢ l.first
      → is_regular es (far es l.last l.stop) ≡ true → low_at m (far es l.last l.stop) ≡ l.last
  other_ascends l n c = go (falls x.at l.trail (λ c'. n))
    where
      x : Across es l.first l.start
      x = across es l.first l.start pr l.at

      go : Falls l.first (far es l.first l.start) l.last l.stop → low_at m (far es l.last l.stop) ≡ l.last
      go (to_last e) = e
      go (nothing_passed a b) = absurd (not_both _ (rw (a, b, x.again) at c) l.starts)

module _ (r : Register) (pr : Proper r.edges) (s : Sided r.edges (marks_of r)) where
  upwards : (l : Line r.edges)
      → (is_regular r.edges (far r.edges l.first l.start) ≡ true → low_at (marks_of r) (far r.edges l.first l.start) ≡ l.first)
      → Upwards r (line_chain l)
  unfolding marks_of label_at low_at line_chain
  upwards l k =
      let c = line_ascends r.edges pr (marks_of r) s l k in
      record {
        lowest = label_at (marks_of r) (far r.edges l.first l.start);
        labels = c.labels_are ∙ ap (λ (n : ℕ). count_from (label_at (marks_of r) (far r.edges l.first l.start)) n) (sym (length-map l.passes at_of));
        last = l.last;
        low_edges = c.lows_are;
      }

  -- the labels of a chain rise by 1, read in one of its two directions
  pub chain_upwards : (d : ℕ) → d < length r.edges → edge_on_ring r.edges d ≡ false → Upwards r (chain_of r.edges d) ⊎ Upwards r (reversed (chain_of r.edges d))
  unfolding line_back
  chain_upwards d h nr = go (ℕ_discrete (low_at (marks_of r) (far es l.first l.start)) l.first)
    where
      es : List Edge
      es = r.edges

      o : LineOf es (chain_of es d)
      o = own_line es pr d h nr

      l : Line es
      l = o.line

      go : Dec (low_at (marks_of r) (far es l.first l.start) ≡ l.first) → Upwards r (chain_of es d) ⊎ Upwards r (reversed (chain_of es d))
      go (yes e) = inl (subst (λ (c : Chain). Upwards r c) o.chain_is (upwards l (λ c. e)))
      go (no n) =
          inr (subst (λ (c : Chain). Upwards r c) (line_back_chain es pr l ∙ ap reversed o.chain_is)
          (upwards (line_back es pr l) (other_ascends es pr (marks_of r) s l n)))
