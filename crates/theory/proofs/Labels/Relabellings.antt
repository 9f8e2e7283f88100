-- How many vertices are relabelled: by one label set, and by a path.
use Rattle.std.specs.Prelude.{if◌then◌else◌}
use mathlib.Core.Path.{◌≡◌, refl, sym, ◌∙◌}
use Prim.Native.Nat.{ℕ, zero, suc, ◌+◌, ◌≤◌}
use native.Mathlib.Omega.{arith}
use native.Mathlib.Nat.{not-suc-le-zero}
use mathlib.Core.Bool.{Bool, true, false, not, ◌||◌}
use mathlib.Core.List.{List, [], ◌∷◌}
use lib.ListN.{length, get_or, set}
use lib.Dec.{eqb}
use borrow.Author.Tests.{eq-eqb}
use Rattle.model.specs.Graph.{Pass}
use Rattle.model.specs.Labels.{Marks, is_relabelled, label_path, mark, relabel_count, relabelled, relabelled_from}
use Rattle.model.proofs.Basics.Booleans.{one_most}
use Rattle.model.proofs.Basics.Total.{total, total_front, total_same, total_zero}
use Rattle.model.proofs.Labels.Following.{following, following_cons, ith_label, low_of}

-- 1 where a label was changed to another, else 0
unfoldable pub moved : ℕ → ℕ → ℕ
moved t u = if is_relabelled t u then 1 else 0

-- at most 1; 0 where there was no label
pub moved_le : (t u : ℕ) → moved t u ≤ 1
unfolding moved
moved_le t u = one_most (is_relabelled t u)

pub moved_old : (t u : ℕ) → t ≡ 0 → moved t u ≡ 0
unfolding moved is_relabelled
moved_old t u e = rw (eq-eqb t 0 e)

or_true : (a b : Bool) → ◌≡◌ {A = ℕ} (if not (a || true || b) then 1 else 0) 0
or_true true b = refl
or_true false b = refl

or_last : (a b : Bool) → ◌≡◌ {A = ℕ} (if not (a || b || true) then 1 else 0) 0
or_last true b = refl
or_last false true = refl
or_last false false = refl

-- 0 where there is none now, and where it is the same
pub moved_new : (t : ℕ) → moved t 0 ≡ 0
unfolding moved is_relabelled
moved_new t = rw (eq-eqb 0 0 refl) (or_true (eqb t 0) (eqb t 0))

pub moved_same : (t : ℕ) → moved t t ≡ 0
unfolding moved is_relabelled
moved_same t = rw (eq-eqb t t refl) (or_last (eqb t 0) (eqb t 0))

-- the number from which the vertices are counted does not matter
relabelled_from_length : (i j : ℕ) (ts us : List ℕ) → length (relabelled_from i ts us) ≡ length (relabelled_from j ts us)
unfolding relabelled_from
relabelled_from_length i j [] us = refl
relabelled_from_length i j (t ∷ ts) [] = refl
relabelled_from_length i j (t ∷ ts) (u ∷ us) = go (is_relabelled t u) refl (relabelled_from_length (suc i) (suc j) ts us)
  where
    go : (b : Bool) → is_relabelled t u ≡ b → length (relabelled_from (suc i) ts us) ≡ length (relabelled_from (suc j) ts us)
        → length (relabelled_from i (t ∷ ts) (u ∷ us)) ≡ length (relabelled_from j (t ∷ ts) (u ∷ us))
    go true e h = rw (e, relabelled_from) (omega (arith, h))
    go false e h = rw (e, relabelled_from) h

-- the count by its first vertex and the others
pub relabel_count_cons : (t u : ℕ) (ts us : List ℕ) → relabel_count (t ∷ ts) (u ∷ us) ≡ moved t u + relabel_count ts us
unfolding relabel_count relabelled relabelled_from moved
relabel_count_cons t u ts us = go (is_relabelled t u) refl (relabelled_from_length 1 0 ts us)
  where
    go : (b : Bool) → is_relabelled t u ≡ b → length (relabelled_from 1 ts us) ≡ length (relabelled_from 0 ts us)
        → length (relabelled_from 0 (t ∷ ts) (u ∷ us)) ≡ (if is_relabelled t u then 1 else 0) + length (relabelled_from 0 ts us)
    go true e h = rw (e, relabelled_from) (omega (arith, h))
    go false e h = rw (e, relabelled_from) (omega (arith, h))

-- the same labels: none is changed
pub relabel_count_same : (ts : List ℕ) → relabel_count ts ts ≡ 0
unfolding relabel_count relabelled relabelled_from
relabel_count_same [] = refl
relabel_count_same (t ∷ ts) = omega (arith, relabel_count_cons t t ts ts, moved_same t, relabel_count_same ts)

-- the number of relabelled vertices, vertex by vertex
pub relabel_count_total : (n : ℕ) (ts us : List ℕ) → length ts ≤ n → relabel_count ts us ≡ total n (λ v. moved (get_or ts v 0) (get_or us v 0))
unfolding relabel_count relabelled relabelled_from
relabel_count_total n [] us l = sym (total_same n (λ v. moved 0 (get_or us v 0)) (λ v. 0) (λ v h. moved_old 0 (get_or us v 0) refl) ∙ total_zero n)
relabel_count_total n (t ∷ ts) [] l = sym (total_same n (λ v. moved (get_or (t ∷ ts) v 0) 0) (λ v. 0) (λ v h. moved_new (get_or (t ∷ ts) v 0)) ∙ total_zero n)
relabel_count_total zero (t ∷ ts) (u ∷ us) l = absurd (not-suc-le-zero l)
relabel_count_total (suc n) (t ∷ ts) (u ∷ us) l =
    omega (arith, relabel_count_cons t u ts us, relabel_count_total n ts us (omega arith), total_front n (λ v. moved (get_or (t ∷ ts) v 0) (get_or (u ∷ us) v 0)))

-- one more label set
pub relabel_count_set : (ts us : List ℕ) (v label k : ℕ) → moved (get_or ts v 0) label ≤ k → relabel_count ts (set us v label) ≤ relabel_count ts us + k
unfolding relabel_count relabelled relabelled_from
relabel_count_set [] us v label k l = omega arith
relabel_count_set (t ∷ ts) [] v label k l = omega arith
relabel_count_set (t ∷ ts) (u ∷ us) zero label k l = omega (arith, relabel_count_cons t u ts us, relabel_count_cons t label ts us)
relabel_count_set (t ∷ ts) (u ∷ us) (suc v) label k l =
    omega (arith, relabel_count_cons t u ts us, relabel_count_cons t u ts (set us v label), relabel_count_set ts us v label k l)

-- .. where none was worn
pub relabel_count_bare : (ts us : List ℕ) (v label : ℕ) → get_or ts v 0 ≡ 0 → relabel_count ts (set us v label) ≤ relabel_count ts us
relabel_count_bare ts us v label e = omega (arith, relabel_count_set ts us v label 0 (omega (arith, moved_old (get_or ts v 0) label e)))

-- a path changes at most as many labels as it has vertices
pub relabel_count_path : (ts : List ℕ) (up : Bool) (label : ℕ) (path : List Pass) (m : Marks)
    → relabel_count ts (following up label path m).labels ≤ relabel_count ts m.labels + length path
unfolding following label_path mark
relabel_count_path ts true label [] m = omega arith
relabel_count_path ts false label [] m = omega arith
relabel_count_path ts up label (s ∷ ss) m =
    rw (following_cons up label s ss m) (omega (arith, relabel_count_path ts up (ith_label up label 0) ss (mark s.at (ith_label up label 0) (low_of up s) m), relabel_count_set ts m.labels s.at (ith_label up label 0) 1 (moved_le (get_or ts s.at 0) (ith_label up label 0))))

-- the first of a path, where it wore no label
pub relabel_count_first : (ts : List ℕ) (up : Bool) (label : ℕ) (s : Pass) (ss : List Pass) (m : Marks) (k : ℕ) → get_or ts s.at 0 ≡ 0
    → relabel_count ts (following up (ith_label up label 0) ss (mark s.at (ith_label up label 0) (low_of up s) m)).labels ≤ relabel_count ts (mark s.at (ith_label up label 0) (low_of up s) m).labels + k
    → relabel_count ts (following up label (s ∷ ss) m).labels ≤ relabel_count ts m.labels + k
unfolding mark
relabel_count_first ts up label s ss m k e h = rw (following_cons up label s ss m) (omega (arith, h, relabel_count_bare ts m.labels s.at (ith_label up label 0) e))
