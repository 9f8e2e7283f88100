-- How many vertices are relabelled: what one store adds, and at most all.
use mathlib.Core.Path.{◌≡◌, refl}
use Prim.Native.Nat.{ℕ, zero, suc, ◌+◌, ◌≤◌}
use native.Mathlib.Omega.{arith}
use mathlib.Core.List.{List, [], ◌∷◌}
use lib.ListN.{length, get_or, set}
use Rattle.model.specs.Labels.{relabel_count, relabelled, relabelled_from}
use Rattle.theory.proofs.Labels.Relabellings.{moved, moved_le, moved_old, moved_same, relabel_count_cons}

-- one store adds 1 where it changes a label to another
pub relabelled_set : (ts us : List ℕ) (v label : ℕ) → length ts ≡ length us → get_or us v 0 ≡ get_or ts v 0
    → relabel_count ts (set us v label) ≡ relabel_count ts us + moved (get_or us v 0) label
unfolding relabel_count relabelled relabelled_from
relabelled_set [] [] v label l e = omega (arith, moved_old 0 label refl)
relabelled_set [] (u ∷ us) v label l e = absurd (omega arith)
relabelled_set (t ∷ ts) [] v label l e = absurd (omega arith)
relabelled_set (t ∷ ts) (u ∷ us) zero label l e =
    let q : u ≡ t = e in
    rw q (omega (arith, relabel_count_cons t label ts us, relabel_count_cons t t ts us, moved_same t))
relabelled_set (t ∷ ts) (u ∷ us) (suc v) label l e =
    omega (arith, relabel_count_cons t u ts us, relabel_count_cons t u ts (set us v label), relabelled_set ts us v label (omega arith) e)

-- at most all are relabelled
pub relabelled_most : (ts us : List ℕ) → relabel_count ts us ≤ length ts
unfolding relabel_count relabelled relabelled_from
relabelled_most [] us = omega arith
relabelled_most (t ∷ ts) [] = omega arith
relabelled_most (t ∷ ts) (u ∷ us) = omega (arith, relabel_count_cons t u ts us, moved_le t u, relabelled_most ts us)
