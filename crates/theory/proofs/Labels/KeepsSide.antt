-- Along a chain the low edges keep their side: if that of the first vertex is the edge before it, so is that of the last; otherwise both are the
-- edges after.
use mathlib.Core.Path.{◌≡◌, sym, ◌∙◌}
use mathlib.Core.Logic.{◌≢◌}
use Prim.Native.Nat.{ℕ, ◌≤◌}
use native.Mathlib.Omega.{arith}
use native.Mathlib.Nat.{not-suc-le-zero}
use mathlib.Core.Bool.{true}
use mathlib.Core.List.{List, []}
use lib.ListN.{length}
use Rattle.model.specs.Graph.{Edge, Pass, far, is_regular, turn}
use Rattle.model.specs.Labels.{Marks}
use Rattle.model.proofs.Walks.Degree.{Proper, is_two}
use Rattle.model.proofs.Walks.Turn.{At, two_edges, turn_between}
use Rattle.model.proofs.Walks.Joins.{Across, across, far_ne}
use Rattle.model.proofs.Walks.Trail.{Front, Next, Trail, done, first, front, next_edge, nothing, pass}
use Rattle.model.proofs.Labels.Following.{low_at}
use Rattle.theory.proofs.Labels.Rise.{OneLow, Sided, first_low, second_low, step_low}

module _ (es : List Edge) (pr : Proper es) (m : Marks) (s : Sided es m) where
  -- a regular vertex has one of its two edges as its low edge
  other_low : (v d t : ℕ) → At es v d → is_regular es v ≡ true → turn es d v ≡ t → low_at m v ≢ d → low_at m v ≡ t
  other_low v d t a c e n = sym (turn_between es v d (low_at m v) (two_edges es v pr (is_two es v c)) a (s.low_at_lem v (is_two es v c)) (λ x. n (sym x))) ∙ e

  abbrev pub Keeps : (d v q w : ℕ) → Type 0
  Keeps d v q w = (low_at m v ≡ d → low_at m (far es q w) ≢ q) × (low_at m v ≢ d → low_at m (far es q w) ≡ q)

  step_on : (v t : ℕ) → is_regular es v ≡ true → At es v t → is_regular es (far es t v) ≡ true → OneLow m v (far es t v) t
  step_on v t c a c' =
      let x : Across es t v = across es t v pr a in
      step_low (s.steps v (far es t v) t (record {
        first_two = is_two es v c;
        second_two = is_two es (far es t v) c';
        first_at = a;
        second_at = x.at;
        differ = λ e. far_ne es t v pr a (sym e);
      }))

  -- the first and the last low edge of a trail lie on the same side
  pub keeps_side : {d v q w : ℕ} {ss : List Pass} → At es v d → Trail es d v ss q w → 1 ≤ length ss → Keeps d v q w
  keeps_side a done h = absurd (not-suc-le-zero h)
  keeps_side {d} {v} {q} {w} a (pass {ss = ss} t c e u) h = go (front u) (λ k. keeps_side nx.across.at u k)
    where
      nx : Next es d v t
      nx = next_edge es d v t pr a c e

      on : OneLow m v (far es t v) t → Keeps t (far es t v) q w → Keeps d v q w
      on (second_low x y) k = (λ z. k.0 y, λ z. absurd (x (other_low v d t a c e z)))
      on (first_low x y) k = (λ z. absurd (nx.other (sym x ∙ z)), λ z. k.1 y)

      go : Front es t (far es t v) ss w → (1 ≤ length ss → Keeps t (far es t v) q w) → Keeps d v q w
      go (nothing z y) ih = last_one u z
        where
          last_one : {ss' : List Pass} {q' w' : ℕ} → Trail es t (far es t v) ss' q' w' → ss' ≡ [] → Keeps d v q' w'
          last_one done l = rw nx.across.again (λ z. λ k. nx.other (sym k ∙ z), λ z. other_low v d t a c e z)
          last_one (pass t' c' e' u') l = absurd (let z : ◌≡◌ {A = ℕ} 0 1 = cc in omega arith)
      go (first b rest l x y c') ih = on (step_on v t c nx.at c') (ih (rw l (omega arith)))
