-- Edges of which refusals 5, 6, 7 and 31 do not hold: one more, among one vertex more, and that their ends are landed.
use mathlib.Core.Path.{◌≡◌, sym, subst}
use mathlib.Core.Logic.{◌⊎◌, inl, inr}
use Prim.Native.Nat.{ℕ, ◌+◌, ◌<◌}
use native.Mathlib.Omega.{arith}
use mathlib.Core.List.{List, [], ◌∷◌, ◌++◌}
use Rattle.model.specs.Graph.{Edge, edge_at, ends_at}
use Rattle.model.specs.Notions.{Lawful}
use Rattle.model.proofs.Walks.Degree.{AllLawful, end_cases}
use Rattle.model.proofs.Walks.Turn.{At}
use Rattle.model.proofs.Walks.NewEdge.{Which, is_new, is_old, which, edge_at_last}
use Rattle.model.proofs.Walks.Snoc.{edge_at_old}

-- one lawful edge more
pub lawful_snoc : (n : ℕ) (es : List Edge) (e : Edge) → AllLawful n es → Lawful n e → AllLawful n (es ++ (e ∷ []))
lawful_snoc n es e f g d l = go (which es e d l)
  where
    go : Which es e d → Lawful n (edge_at (es ++ (e ∷ [])) d)
    go (is_old h) = subst (λ (z : Edge). Lawful n z) (sym (edge_at_old es e d h)) (f d h)
    go (is_new h) = rw (h, edge_at_last es e) g

-- an edge is lawful among one vertex more
pub lawful_more : (n : ℕ) (e : Edge) → Lawful n e → Lawful (n + 1) e
lawful_more n e l =
    record {
      first_landed = omega arith;
      second_landed = omega arith;
      differ = l.differ;
      some_length = l.some_length;
      most_length = l.most_length;
      most_volume = l.most_volume;
    }

-- an end of a lawful edge is landed
pub end_landed : (n : ℕ) (e : Edge) (v : ℕ) → e.first < n → e.second < n → ends_at v e ≡ 1 → v < n
end_landed n e v a b o = go (end_cases e v o)
  where
    go : (e.first ≡ v) ⊎ (e.second ≡ v) → v < n
    go (inl q) = rw q at a
    go (inr q) = rw q at b

-- every vertex at an edge is landed
pub ends_landed : (n : ℕ) (es : List Edge) → AllLawful n es → (v d : ℕ) → At es v d → v < n
ends_landed n es f v d a = let l = f d a.inside in end_landed n (edge_at es d) v l.first_landed l.second_landed a.meets
