-- Labels laid along a path of the tables: the sides and labels that the marks say, and the number of vertices relabelled.
use Rattle.std.specs.Prelude.{if◌then◌else◌}
use mathlib.Core.Path.{◌≡◌, refl, sym, ap, ◌∙◌}
use mathlib.Core.Logic.{◌≢◌}
use Prim.Native.Nat.{ℕ, zero, suc, ◌+◌, ◌*◌, ◌≤◌, ◌<◌}
use native.Mathlib.Omega.{arith}
use native.Mathlib.Nat.{not-suc-le-zero}
use native.Mathlib.Decide.{ℕ_discrete}
use mathlib.Core.Bool.{Bool, true, false}
use mathlib.Core.List.{List, [], ◌∷◌}
use lib.ListN.{length, get_or, set, length-set}
use lib.Seq.{get_or-set_other}
use Rattle.model.specs.Basics.{max_vertices}
use Rattle.model.specs.Graph.{Edge, Pass, far, is_regular, turn}
use Rattle.model.specs.Labels.{Marks, label_path, mark, next, relabel_count}
use Rattle.tables.specs.Steps.{most32, set_pair, turn_in}
use Rattle.labels.proofs.Labels.{next_in_is, relabel_end, relabel_none, relabel_on}
use Rattle.labels.specs.Labelling.{MarksIn, count_ahead, label_vertex_in, marks_in, next_in, orient_in, relabel_in}
use Rattle.model.proofs.Walks.Degree.{Proper, is_two}
use Rattle.model.proofs.Walks.Turn.{At, Between}
use Rattle.model.proofs.Walks.Trail.{Trail, done, pass, Next, next_edge}
use Rattle.model.proofs.Walks.Places.{Ith, here, later, no_ith, Off, Once, off_cons, once_head, once_tail}
use Rattle.agreement.proofs.Lists.{PairAt, length_pair, pair_other}
use Rattle.agreement.proofs.Relabelled.{relabelled_set}
use Rattle.agreement.proofs.Linked.{Linked, linked_here, linked_other}
use Rattle.agreement.proofs.Passes.{AllBetween}
use Rattle.agreement.proofs.Lockstep.{Shows, shows_regular, shows_singular}
use Rattle.theory.proofs.Labels.Relabellings.{moved}

-- ---- tables that hold what the marks say, where X holds

-- the labels are the marks', and where X holds so are the sides
pub record HoldsMarks (es : List Edge) (X : ℕ → Type 0) (sides labels : List ℕ) (m : Marks) : Type 0 where
  pub labels_are : labels ≡ m.labels
  pub links : (v : ℕ) → v < max_vertices → X v → Linked es sides m.lows v
  pub sides_long : length sides ≡ 2 * max_vertices
  pub lows_long : length m.lows ≡ max_vertices

-- at every vertex
abbrev pub Everywhere : ℕ → Type 0
Everywhere v = Unit {0}

-- what holds where X does holds where less is asked
pub kept_where : {es : List Edge} {X : ℕ → Type 0} {sides labels : List ℕ} {m : Marks} (Y : ℕ → Type 0) → ((v : ℕ) → Y v → X v)
    → HoldsMarks es X sides labels m → HoldsMarks es Y sides labels m
kept_where Y h k = record { labels_are = k.labels_are; links = λ v l y. k.links v l (h v y); sides_long = k.sides_long; lows_long = k.lows_long }

-- a regular vertex gets its sides and its label
module _ (es : List Edge) (X Y : ℕ → Type 0) (sides labels : List ℕ) (m : Marks) (x label : ℕ) (wider : (v : ℕ) → Y v → v ≢ x → X v)
    (k : HoldsMarks es X sides labels m) (l : x < max_vertices) where
  kept_pair : (low high : ℕ) → is_regular es x ≡ true → At es x low → turn es low x ≡ high
      → HoldsMarks es Y (set_pair sides x low high) (set labels x label) (mark x label low m)
  unfolding mark
  kept_pair low high c a e =
      record {
        labels_are = rw k.labels_are;
        links = λ v b y. go v b y (ℕ_discrete v x);
        sides_long = length_pair sides x low high ∙ k.sides_long;
        lows_long = length-set m.lows x low ∙ k.lows_long;
      }
    where
      go : (v : ℕ) → v < max_vertices → Y v → Dec (v ≡ x) → Linked es (set_pair sides x low high) (set m.lows x low) v
      go v b y (yes q) = rw q (linked_here es sides m.lows x low high (omega (arith, k.sides_long)) (omega (arith, k.lows_long)) (is_two es x c) a e)
      go v b y (no n) = linked_other es sides m.lows v x low high low n (k.links v b (wider v y n))

  -- a vertex that is labelled in the tables wears what `mark` says
  pub kept_label : (c d : ℕ) (up : Bool) → Between es x c d
      → HoldsMarks es Y (label_vertex_in sides labels x label c d up).sides (label_vertex_in sides labels x label c d up).labels (mark x label (if up then c else d) m)
  unfolding label_vertex_in orient_in
  kept_label c d true b = kept_pair c d b.regular b.before_at b.forth
  kept_label c d false b = kept_pair d c b.regular b.after_at b.back

-- no other vertex is touched
pub vertex_off : (up : Bool) (sides labels : List ℕ) (x label c d v : ℕ) → v ≢ x
    → let w = label_vertex_in sides labels x label c d up in
    PairAt w.sides v (get_or sides (2 * v) 0) (get_or sides (2 * v + 1) 0) × (get_or w.labels v 0 ≡ get_or labels v 0)
unfolding label_vertex_in orient_in
vertex_off true sides labels x label c d v n = (pair_other sides x v c d n, get_or-set_other labels x v label 0 n)
vertex_off false sides labels x label c d v n = (pair_other sides x v d c n, get_or-set_other labels x v label 0 n)

-- ---- a path

-- its vertices, in path order, get the labels from `label` on; the count is that of the relabelled
unfoldable pub lay_in : Bool → ℕ → List Pass → List ℕ → List ℕ → MarksIn
lay_in up label [] sides labels = marks_in sides labels 0
lay_in up label (s ∷ ss) sides labels =
    let w = label_vertex_in sides labels s.at label s.before s.after up in
    count_ahead w.count (lay_in up (next up label) ss w.sides w.labels)

-- tables in which a path is labelled hold what `label_path` says
pub lay_kept : (es : List Edge) → ((v d : ℕ) → At es v d → v < max_vertices) → (up : Bool) (label : ℕ) (path : List Pass) (sides labels : List ℕ) (m : Marks)
    → AllBetween es path → HoldsMarks es (Off path) sides labels m
    → HoldsMarks es Everywhere (lay_in up label path sides labels).sides (lay_in up label path sides labels).labels (label_path up label path m)
unfolding lay_in label_path count_ahead
lay_kept es below up label [] sides labels m b k = kept_where Everywhere (λ v _ i s j. absurd (no_ith j)) k
lay_kept es below up label (s ∷ ss) sides labels m b k =
    let w = label_vertex_in sides labels s.at label s.before s.after up in
    lay_kept es below up (next up label) ss w.sides w.labels (mark s.at label (if up then s.before else s.after) m) b.1
    (kept_label es (Off (s ∷ ss)) (Off ss) sides labels m s.at label (off_cons s ss) k (below _ _ b.0.before_at) s.before s.after up b.0)

-- .. where X holds, on the path or off it
pub lay_within : (es : List Edge) → ((v d : ℕ) → At es v d → v < max_vertices) → (X : ℕ → Type 0) (up : Bool) (label : ℕ) (path : List Pass) (sides labels : List ℕ) (m : Marks)
    → AllBetween es path → HoldsMarks es X sides labels m
    → HoldsMarks es X (lay_in up label path sides labels).sides (lay_in up label path sides labels).labels (label_path up label path m)
unfolding lay_in label_path count_ahead
lay_within es below X up label [] sides labels m b k = k
lay_within es below X up label (s ∷ ss) sides labels m b k =
    let w = label_vertex_in sides labels s.at label s.before s.after up in
    lay_within es below X up (next up label) ss w.sides w.labels (mark s.at label (if up then s.before else s.after) m) b.1
    (kept_label es X X sides labels m s.at label (λ v x n. x) k (below _ _ b.0.before_at) s.before s.after up b.0)

-- off the path nothing changes
pub lay_off : (up : Bool) (label : ℕ) (path : List Pass) (sides labels : List ℕ) (v : ℕ) → Off path v
    → let w = lay_in up label path sides labels in
    PairAt w.sides v (get_or sides (2 * v) 0) (get_or sides (2 * v + 1) 0) × (get_or w.labels v 0 ≡ get_or labels v 0)
unfolding lay_in count_ahead
lay_off up label [] sides labels v o = ((refl, refl), refl)
lay_off up label (s ∷ ss) sides labels v o =
    let w = label_vertex_in sides labels s.at label s.before s.after up in
    let ih = lay_off up (next up label) ss w.sides w.labels v (λ i t j. o (suc i) t (later j)) in
    let q = vertex_off up sides labels s.at label s.before s.after v (λ e. o 0 s here (sym e)) in
    ((ih.0.0 ∙ q.0.0, ih.0.1 ∙ q.0.1), ih.1 ∙ q.1)

-- the count of a path that is labelled is that of the relabelled
pub lay_counts : (ts : List ℕ) (up : Bool) (label : ℕ) (path : List Pass) (sides labels : List ℕ) → length ts ≡ length labels → Once path
    → ((i : ℕ) (s : Pass) → Ith s i path → get_or labels s.at 0 ≡ get_or ts s.at 0)
    → relabel_count ts (lay_in up label path sides labels).labels ≡ relabel_count ts labels + (lay_in up label path sides labels).count
unfolding lay_in count_ahead label_vertex_in moved
lay_counts ts up label [] sides labels l o h = omega arith
lay_counts ts up label (s ∷ ss) sides labels l o h =
    let w = label_vertex_in sides labels s.at label s.before s.after up in
    let ih = lay_counts ts up (next up label) ss w.sides w.labels (l ∙ sym (length-set labels s.at label)) (once_tail s ss o)
    (λ i t j. get_or-set_other labels s.at t.at label 0 (once_head s ss o i t j) ∙ h (suc i) t (later j)) in
    omega (arith, ih, relabelled_set ts labels s.at label l (h 0 s here))

-- ---- the next label

-- the next label is at most one more
pub next_most : (up : Bool) (label : ℕ) → next up label ≤ label + 1
unfolding next
next_most true label = omega arith
next_most false label = omega arith

-- three labels on from `label`, and then n more: the code, which stops at the largest number, steps as the definition does
pub record Follow (up : Bool) (label n : ℕ) : Type 0 where
  pub first : next up label ≡ next_in up label
  pub second : next up (next up label) ≡ next_in up (next up label)
  pub third : next up (next up (next up label)) ≡ next_in up (next up (next up label))
  pub room : next up (next up (next up label)) + n < most32

-- the code steps so where the last of these labels stays below the largest number
pub follow : (up : Bool) (label n : ℕ) → label + 3 + n < most32 → Follow up label n
follow up label n h =
    let b₁ = next_most up label in
    let b₂ = next_most up (next up label) in
    let b₃ = next_most up (next up (next up label)) in
    record {
      first = sym (next_in_is up label (omega arith));
      second = sym (next_in_is up (next up label) (omega (arith, b₁)));
      third = sym (next_in_is up (next up (next up label)) (omega (arith, b₁, b₂)));
      room = omega (arith, b₁, b₂, b₃);
    }

-- ---- a walk that relabels

-- the sides say where each pass turns
abbrev pub Turns : List ℕ → List Pass → Type 0
Turns sides path = (i : ℕ) (s : Pass) → Ith s i path → turn_in sides s.before s.at ≡ s.after

-- a vertex that is labelled leaves the turns at others
pub turn_other : (sides labels : List ℕ) (v label c d : ℕ) (up : Bool) (e w : ℕ) → w ≢ v
    → turn_in (label_vertex_in sides labels v label c d up).sides e w ≡ turn_in sides e w
unfolding turn_in label_vertex_in orient_in
turn_other sides labels v label c d true e w n = let p = pair_other sides v w c d n in rw (p.0, p.1)
turn_other sides labels v label c d false e w n = let p = pair_other sides v w d c n in rw (p.0, p.1)

module _ {es : List Edge} (pr : Proper es) {degrees sides₀ ends lows : List ℕ} (sh : Shows es degrees sides₀ ends lows) (up : Bool) where
  -- a walk that relabels lays the labels along its trail
  pub relabel_lays : {d v c w : ℕ} {ss : List Pass} (k : ℕ) (sides labels : List ℕ) (label : ℕ) → At es v d → Trail es d v ss c w → is_regular es w ≡ false
      → length ss ≤ k → label + length ss < most32 → Once ss → Turns sides ss
      → relabel_in degrees ends up k sides labels d v label ≡ lay_in up label ss sides labels
  unfolding lay_in
  relabel_lays {d} {v} k sides labels label a done j l b o t =
      relabel_end degrees ends up k sides labels d v label (shows_singular sh a j)
  relabel_lays zero sides labels label a (pass c r e u) j l b o t = absurd (not-suc-le-zero l)
  relabel_lays {d} {v} (suc k) sides labels label a (pass {ss = ss} c r e u) j l b o t =
      let x : Next es d v c = next_edge es d v c pr a r e in
      let h = label_vertex_in sides labels v label d c up in
      let n = next_most up label in
      relabel_on degrees ends up k sides labels d v label c (far es c v) (next up label) (shows_regular sh a r) (t 0 _ here)
      (sh.fars_are c v x.at.inside) (next_in_is up label (omega arith))
      ∙ ap (count_ahead h.count)
      (relabel_lays k h.sides h.labels (next up label) x.across.at u j (omega arith) (omega (arith, n)) (once_tail _ ss o)
      (λ i s q. turn_other sides labels v label d c up s.before s.at (once_head _ ss o i s q) ∙ t (suc i) s (later q)))

  -- .. with just as many steps, wherever the path ends
  pub relabel_all : {d v c w : ℕ} {ss : List Pass} (sides labels : List ℕ) (label : ℕ) → At es v d → Trail es d v ss c w
      → label + length ss < most32 → Once ss → Turns sides ss
      → relabel_in degrees ends up (length ss) sides labels d v label ≡ lay_in up label ss sides labels
  unfolding lay_in
  relabel_all {d} {v} sides labels label a done b o t = relabel_none degrees ends up 0 sides labels d v label (omega arith)
  relabel_all {d} {v} sides labels label a (pass {ss = ss} c r e u) b o t =
      let x : Next es d v c = next_edge es d v c pr a r e in
      let h = label_vertex_in sides labels v label d c up in
      let n = next_most up label in
      relabel_on degrees ends up (length ss) sides labels d v label c (far es c v) (next up label) (shows_regular sh a r) (t 0 _ here)
      (sh.fars_are c v x.at.inside) (next_in_is up label (omega arith))
      ∙ ap (count_ahead h.count)
      (relabel_all h.sides h.labels (next up label) x.across.at u (omega (arith, n)) (once_tail _ ss o)
      (λ i s q. turn_other sides labels v label d c up s.before s.at (once_head _ ss o i s q) ∙ t (suc i) s (later q)))
