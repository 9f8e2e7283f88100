-- Labels of a new block laid along a path whose vertices wear older ones: each of them is relabelled, but for one that was cleared before.
use mathlib.Core.Path.{◌≡◌, refl, sym, ap, ◌∙◌}
use mathlib.Core.Logic.{◌⊎◌, inl, inr}
use Prim.Native.Nat.{ℕ, suc, ◌+◌, ◌≤◌, ◌<◌}
use native.Mathlib.Omega.{arith}
use native.Mathlib.Decide.{ℕ_discrete}
use mathlib.Core.Bool.{true}
use mathlib.Core.List.{List, [], ◌∷◌}
use lib.ListN.{length, get_or, set}
use lib.Seq.{get_or-set_other, set-set, set_comm}
use borrow.Author.Tests.{ne_eqb}
use Rattle.model.specs.Graph.{Edge, Pass, degree}
use Rattle.model.specs.Labels.{is_relabelled, next}
use Rattle.labels.specs.Labelling.{count_ahead, label_vertex_in}
use Rattle.theory.proofs.Labels.Relabellings.{moved, moved_old}
use Rattle.theory.proofs.Labels.Splits.{set_off}
use Rattle.model.proofs.Walks.Places.{Ith, here, later, no_ith, InPath, Once, ith_split, once_head, once_tail}
use Rattle.agreement.proofs.Laying.{lay_in}

-- another label, and none of the two is 0
moves : (old new : ℕ) → 1 ≤ old → old < new → moved old new ≡ 1
unfolding moved is_relabelled
moves old new n l = rw (ne_eqb old 0 (λ q. omega arith), ne_eqb new 0 (λ q. omega arith), ne_eqb old new (λ q. omega arith))

-- each vertex of the path wears a label, and one below `label`
abbrev pub Older : List ℕ → ℕ → List Pass → Type 0
Older labels label path = (i : ℕ) (s : Pass) → Ith s i path → (1 ≤ get_or labels s.at 0) × (get_or labels s.at 0 < label)

-- .. and so does each regular vertex
abbrev pub AllOlder : List Edge → List ℕ → ℕ → Type 0
AllOlder es labels label = (v : ℕ) → degree es v ≡ 2 → (1 ≤ get_or labels v 0) × (get_or labels v 0 < label)

older_next : (labels : List ℕ) (label : ℕ) (s : Pass) (ss : List Pass) → Once (s ∷ ss) → Older labels label (s ∷ ss) → Older (set labels s.at label) (label + 1) ss
older_next labels label s ss o h i t j =
    let q = get_or-set_other labels s.at t.at label 0 (once_head s ss o i t j) in
    let p = h (suc i) t (later j) in
    (omega (arith, q, p.0), omega (arith, q, p.1))

-- the labels from `label` on relabel every vertex of the path
pub lay_renews : (label : ℕ) (path : List Pass) (sides labels : List ℕ) → Once path → Older labels label path → (lay_in true label path sides labels).count ≡ length path
unfolding lay_in count_ahead label_vertex_in next moved
lay_renews label [] sides labels o h = refl
lay_renews label (s ∷ ss) sides labels o h =
    let w = label_vertex_in sides labels s.at label s.before s.after true in
    let p = h 0 s here in
    let ih = lay_renews (label + 1) ss w.sides (set labels s.at label) (once_tail s ss o) (older_next labels label s ss o h) in
    omega (arith, moves (get_or labels s.at 0) label p.0 p.1, ih)

-- .. and one less where the label of one of them was cleared before
pub lay_renews_less : (label : ℕ) (path : List Pass) (sides labels : List ℕ) (v : ℕ) → Once path → Older labels label path → InPath path v
    → (lay_in true label path sides (set labels v 0)).count + 1 ≡ length path
unfolding lay_in count_ahead label_vertex_in next moved
lay_renews_less label [] sides labels v o h f = absurd (no_ith f.ith)
lay_renews_less label (s ∷ ss) sides labels v o h f =
    go (ℕ_discrete s.at v) (λ g. lay_renews_less (label + 1) ss _ (set labels s.at label) v (once_tail s ss o) (older_next labels label s ss o h) g) (ith_split f.ith)
  where
    go : Dec (s.at ≡ v)
        → (InPath ss v → (lay_in true (label + 1) ss (label_vertex_in sides labels s.at label s.before s.after true).sides (set (set labels s.at label) v 0)).count + 1 ≡ length ss)
        → (f.pass_is ≡ s) ⊎ ((j : ℕ) × Ith f.pass_is j ss)
        → (lay_in true label (s ∷ ss) sides (set labels v 0)).count + 1 ≡ suc (length ss)
    go (yes e) ih i =
        let z : moved (get_or (set labels s.at 0) s.at 0) label ≡ 0 = moved_old (get_or (set labels s.at 0) s.at 0) label (set_off labels s.at) in
        let w = label_vertex_in sides labels s.at label s.before s.after true in
        rw (← e, set-set labels s.at 0 label)
        (omega (arith, z, lay_renews (label + 1) ss w.sides (set labels s.at label) (once_tail s ss o) (older_next labels label s ss o h)))
    go (no n) ih (inl q) = absurd (n (ap (λ (x : Pass). x.at) (sym q) ∙ f.at_is))
    go (no n) ih (inr (i, j)) =
        let p = h 0 s here in
        rw (set_comm labels v s.at 0 label (λ z. n (sym z)), get_or-set_other labels v s.at 0 0 n)
        (omega (arith, moves (get_or labels s.at 0) label p.0 p.1, ih (record { index = i; pass_is = f.pass_is; ith = j; at_is = f.at_is })))
