-- A label that is cleared before a path is laid, and one that is cleared after.
use mathlib.Core.Path.{◌≡◌, refl, sym, ap, ◌∙◌}
use mathlib.Core.Logic.{◌⊎◌, inl, inr}
use Prim.Native.Nat.{ℕ, zero, suc}
use native.Mathlib.Omega.{arith}
use native.Mathlib.Decide.{ℕ_discrete}
use mathlib.Core.Bool.{Bool}
use mathlib.Core.List.{List, [], ◌∷◌}
use lib.ListN.{length, set}
use lib.Seq.{set-set, set_comm}
use Rattle.model.specs.Graph.{Pass}
use Rattle.model.specs.Labels.{next, relabel_count}
use Rattle.labels.specs.Labelling.{count_ahead, label_vertex_in}
use Rattle.theory.proofs.Labels.Relabellings.{moved_new, moved_old, relabel_count_cons}
use Rattle.model.proofs.Walks.Places.{Ith, no_ith, InPath, ith_split}
use Rattle.agreement.proofs.Laying.{lay_in}

-- a label cleared after is counted as one that was not there before
pub swap_count : (ts us : List ℕ) (w : ℕ) → length ts ≡ length us → relabel_count ts (set us w 0) ≡ relabel_count (set ts w 0) us
swap_count [] [] w l = refl
swap_count [] (u ∷ us) w l = absurd (omega arith)
swap_count (t ∷ ts) [] w l = absurd (omega arith)
swap_count (t ∷ ts) (u ∷ us) zero l = omega (arith, relabel_count_cons t 0 ts us, relabel_count_cons 0 u ts us, moved_new t, moved_old 0 u refl)
swap_count (t ∷ ts) (u ∷ us) (suc w) l = omega (arith, relabel_count_cons t u ts (set us w 0), relabel_count_cons t u (set ts w 0) us, swap_count ts us w (omega arith))

-- the sides that a path gets do not depend on labels
pub lay_sides : (up : Bool) (label : ℕ) (path : List Pass) (sides labels labels' : List ℕ) → (lay_in up label path sides labels).sides ≡ (lay_in up label path sides labels').sides
unfolding lay_in count_ahead label_vertex_in
lay_sides up label [] sides labels labels' = refl
lay_sides up label (s ∷ ss) sides labels labels' =
    let w = label_vertex_in sides labels s.at label s.before s.after up in
    lay_sides up (next up label) ss w.sides (set labels s.at label) (set labels' s.at label)

-- what was at a vertex of the path does not matter
pub lay_over : (up : Bool) (label : ℕ) (path : List Pass) (sides labels : List ℕ) (w a : ℕ) → InPath path w
    → (lay_in up label path sides (set labels w a)).labels ≡ (lay_in up label path sides labels).labels
unfolding lay_in count_ahead label_vertex_in
lay_over up label [] sides labels w a f = absurd (no_ith f.ith)
lay_over up label (s ∷ ss) sides labels w a f =
    go (ℕ_discrete s.at w) (λ g. lay_over up (next up label) ss _ (set labels s.at label) w a g) (ith_split f.ith)
  where
    go : Dec (s.at ≡ w)
        → (InPath ss w → (lay_in up (next up label) ss (label_vertex_in sides labels s.at label s.before s.after up).sides (set (set labels s.at label) w a)).labels
        ≡ (lay_in up (next up label) ss (label_vertex_in sides labels s.at label s.before s.after up).sides (set labels s.at label)).labels)
        → (f.pass_is ≡ s) ⊎ ((j : ℕ) × Ith f.pass_is j ss)
        → (lay_in up label (s ∷ ss) sides (set labels w a)).labels ≡ (lay_in up label (s ∷ ss) sides labels).labels
    go (yes e) ih i = rw (← e, set-set labels s.at a label)
    go (no n) ih (inl q) = absurd (n (ap (λ (x : Pass). x.at) (sym q) ∙ f.at_is))
    go (no n) ih (inr (i, j)) = rw (set_comm labels w s.at a label (λ q. n (sym q))) (ih (record { index = i; pass_is = f.pass_is; ith = j; at_is = f.at_is }))
