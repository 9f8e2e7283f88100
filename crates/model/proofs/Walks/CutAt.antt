-- A trail cut at one of its regular vertices.
use mathlib.Core.Path.{◌≡◌, refl, ap}
use Prim.Native.Nat.{ℕ, zero, suc}
use mathlib.Core.Bool.{true}
use mathlib.Core.List.{List, [], ◌∷◌, ◌++◌}
use lib.ListN.{length}
use Rattle.model.specs.Graph.{Edge, Pass, far, is_regular, turn}
use Rattle.model.proofs.Walks.Trail.{Trail, done, pass}
use Rattle.model.proofs.Walks.Places.{Ith, here, later, no_ith}

-- the trail up to its i-th vertex, and the trail behind it
pub record CutAt (es : List Edge) (d w : ℕ) (ss : List Pass) (q z i : ℕ) (s : Pass) : Type 0 where
  pub front : List Pass
  pub rest : List Pass
  pub parts : ss ≡ front ++ (s ∷ rest)
  pub index : length front ≡ i
  pub before : Trail es d w front s.before s.at
  pub regular : is_regular es s.at ≡ true
  pub turns : turn es s.before s.at ≡ s.after
  pub behind : Trail es s.after (far es s.after s.at) rest q z

-- every trail can be cut at each of its vertices
pub cut_at : {es : List Edge} {d w q z : ℕ} {ss : List Pass} → Trail es d w ss q z → (i : ℕ) (s : Pass) → Ith s i ss → CutAt es d w ss q z i s
cut_at done i s j = absurd (no_ith j)
cut_at (pass {ss = ss} t c e u) zero s here = record { front = []; rest = ss; parts = refl; index = refl; before = done; regular = c; turns = e; behind = u }
cut_at {d = d} {w = w} (pass t c e u) (suc i) s (later j) =
    let r = cut_at u i s j in
    record {
      front = record { before = d; at = w; after = t } ∷ r.front;
      rest = r.rest;
      parts = ap (λ (l : List Pass). record { before = d; at = w; after = t } ∷ l) r.parts;
      index = ap suc r.index;
      before = pass t c e r.before;
      regular = r.regular;
      turns = r.turns;
      behind = r.behind;
    }
