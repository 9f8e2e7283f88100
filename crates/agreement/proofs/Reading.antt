-- The relabellings are read before they are written: a walk that reads finds as many as laying the labels then counts.
use Rattle.std.specs.Prelude.{Option}
use mathlib.Core.Path.{◌≡◌, ap₂, sym, ap, ◌∙◌}
use Prim.Native.Nat.{ℕ, zero, suc, ◌+◌, ◌*◌, ◌≤◌, ◌<◌}
use native.Mathlib.Omega.{arith}
use native.Mathlib.Nat.{not-suc-le-zero}
use mathlib.Core.Bool.{Bool, true, false}
use mathlib.Core.List.{List}
use lib.ListN.{length, get_or}
use lib.Seq.{get_or-set_other}
use borrow.Author.Tests.{eq-eqb, ne_eqb}
use Rattle.model.specs.Graph.{Edge, Pass, far, is_regular}
use Rattle.model.specs.Labels.{next}
use Rattle.tables.specs.Steps.{far_in, most32}
use Rattle.tables.specs.Walks.{Met, lockstep_in}
use Rattle.labels.specs.Labelling.{count_ahead, label_vertex_in}
use Rattle.joining.specs.Merging.{keeper_for}
use Rattle.joining.specs.declared.merging.Keeper.{Keeper}
use Rattle.labels.proofs.Labels.{next_in_is}
use Rattle.counting.specs.Counting.{count_in, estimated, keeper_count_in, merge_count_at, merge_count_in, moved_in}
use Rattle.counting.proofs.Laws.{count_end, count_on}
use Rattle.model.proofs.Walks.Degree.{Proper}
use Rattle.model.proofs.Walks.Turn.{At}
use Rattle.model.proofs.Walks.Trail.{Trail, done, pass, Next, next_edge}
use Rattle.model.proofs.Walks.Places.{Ith, here, later, Once, once_head, once_tail}
use Rattle.agreement.proofs.Lockstep.{Shows, shows_regular, shows_singular, shows_turn}
use Rattle.agreement.proofs.Laying.{lay_in, next_most}

-- the vertices of the path wear in `labels` what they wear in `ts`
abbrev pub SameOn : List Pass → List ℕ → List ℕ → Type 0
SameOn path ts labels = (i : ℕ) (s : Pass) → Ith s i path → get_or labels s.at 0 ≡ get_or ts s.at 0

module _ {es : List Edge} (pr : Proper es) {degrees sides ends lows : List ℕ} (sh : Shows es degrees sides ends lows) (ts : List ℕ) (up : Bool) where
  -- along a walk to a singular vertex the count that is read in `ts` is the count of laying the labels over `labels`
  pub count_lays : {d v c w : ℕ} {ss : List Pass} (k : ℕ) (sides' labels : List ℕ) (label : ℕ) → At es v d → Trail es d v ss c w → is_regular es w ≡ false
      → length ss ≤ k → label + length ss < most32 → Once ss → SameOn ss ts labels
      → count_in degrees sides ends ts up k d v label ≡ (lay_in up label ss sides' labels).count
  unfolding lay_in count_ahead label_vertex_in moved_in
  count_lays {d} {v} k sides' labels label a done j l b o h = count_end degrees sides ends ts up k d v label (shows_singular sh a j)
  count_lays zero sides' labels label a (pass c r e u) j l b o h = absurd (not-suc-le-zero l)
  count_lays {d} {v} (suc k) sides' labels label a (pass {ss = ss} c r e u) j l b o h =
      let x : Next es d v c = next_edge es d v c pr a r e in
      let n = next_most up label in
      let w = label_vertex_in sides' labels v label d c up in
      let m : moved_in (get_or ts v 0) label ≡ moved_in (get_or labels v 0) label = ap (λ (old : ℕ). moved_in old label) (sym (h 0 _ here)) in
      count_on degrees sides ends ts up k d v label c (far es c v) (next up label) (shows_regular sh a r) (shows_turn sh pr a r e)
      (sh.fars_are c v x.at.inside) (next_in_is up label (omega arith))
      ∙ ap₂ {C = ℕ} (λ (p q : ℕ). p + q) m
      (count_lays k w.sides w.labels (next up label) x.across.at u j (omega arith) (omega (arith, n)) (once_tail _ ss o)
      (λ i s q. get_or-set_other labels v s.at label 0 (once_head _ ss o i s q) ∙ h (suc i) s (later q)))

-- the count of a merge, by where the walks in lockstep met: a ring is closed, or one chain keeps its labels
module _ (degrees s ends l : List ℕ) (a b n da ua db ub : ℕ) (m : Met) (h : (da ≡ get_or s (2 * a) 0) × (ua ≡ far_in ends da a))
    (i : (db ≡ get_or s (2 * b) 0) × (ub ≡ far_in ends db b)) (is : m ≡ lockstep_in degrees s ends n da ua db ub) where
  -- the first walk came to b: a ring is closed, and nothing relabelled
  pub count_closes : m.first ≡ b → estimated true 0 ≡ merge_count_in degrees s ends l a b n
  unfolding merge_count_in merge_count_at
  count_closes o = rw (← h.0, ← h.1, ← i.0, ← i.1, ← is, eq-eqb _ _ o)

  -- the first walk did not come to b: the chain that keeps its labels says how many
  pub count_kept : (keeper : Option Keeper) (c : ℕ) → (m.first ≡ b → ⊥) → keeper ≡ keeper_for degrees a b m → c ≡ keeper_count_in keeper degrees s ends l n
      → estimated false c ≡ merge_count_in degrees s ends l a b n
  unfolding merge_count_in merge_count_at
  count_kept keeper c o k e = rw (← h.0, ← h.1, ← i.0, ← i.1, ← is, ne_eqb _ _ o, ← k, ← e)
