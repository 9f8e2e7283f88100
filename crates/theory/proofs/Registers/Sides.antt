-- Every register that landing leaves is `Sided` (Labels/Rise): low edges at regular vertices, and labels that rise by 1 along an edge between
-- two of them, but for the last edge of a ring.
use mathlib.Core.Path.{◌≡◌, refl, sym, subst}
use mathlib.Core.Logic.{◌≢◌}
use Prim.Native.Nat.{ℕ, ◌≤◌, ◌<◌}
use native.Mathlib.Omega.{arith}
use native.Mathlib.Nat.{not-suc-le-zero}
use mathlib.Core.List.{List, [], ◌∷◌, ◌++◌}
use lib.ListN.{length}
use Rattle.model.specs.Graph.{Edge, degree, ends_at}
use Rattle.model.specs.Labels.{Labelling, Marks}
use Rattle.model.specs.Register.{Register, empty, label_of, marks_of, with_edge, with_vertex}
use Rattle.model.specs.Notions.{Admissible, Reachable, from_empty, with_edge_lem, with_vertex_lem}
use Rattle.model.proofs.Walks.Degree.{Proper, regular_no_end}
use Rattle.model.proofs.Walks.Turn.{At}
use Rattle.model.proofs.Walks.NewEdge.{at_new}
use Rattle.theory.proofs.Labels.Relaid.{taps_long}
use Rattle.model.proofs.Labels.Following.{label_at}
use Rattle.theory.proofs.Labels.Taps.{Bared, no_tap}
use Rattle.theory.proofs.Labels.Laid.{Inserted, closes, extends, fresh, fresh_none, merges}
use Rattle.theory.proofs.Labels.WearsAfter.{LongEnough}
use Rattle.theory.proofs.Labels.Rise.{Sided}
use Rattle.theory.proofs.Labels.Away.{Away, away}
use Rattle.theory.proofs.Labels.SidedLaid.{sided_fresh, sided_laid}
use Rattle.theory.proofs.Labels.SidedClosed.{sided_closed}
use Rattle.model.proofs.Registers.Accepted.{accepted, added}
use Rattle.theory.proofs.Registers.Labelled.{Labelled, edge_inserted, label_facts, labelled, long_marks}

-- ---- one edge

module _ (es : List Edge) (p : Edge) (pr : Proper es) (d : p.first ≢ p.second) {m : Marks} (old : Sided es m) (lg : LongEnough (es ++ (p ∷ [])) m) where
  ll : (v e : ℕ) → At es v e → v < length m.labels
  ll v e a = lg.long v e (at_new es p a)

  lw : (v e : ℕ) → At es v e → v < length m.lows
  lw v e a = omega (arith, lg.long v e (at_new es p a), lg.even)

  -- after the taps
  bared : {blocks : ℕ} {l : Labelling} (b : Bared es p blocks m l) → Away es p pr d b.after
  bared b = away es p pr d m old ll lw b.taps b.covered

  -- where both ends were leaves there are none
  leaves : (x y : ℕ) → ends_at x p ≡ 1 → ends_at y p ≡ 1 → x ≢ y → degree es x ≡ 1 → degree es y ≡ 1 → Away es p pr d m
  leaves x y ox oy xy cx cy =
      away es p pr d m old ll lw {blocks = 0} {blocks₁ = 0} {k = 0} (no_tap refl refl refl) (λ v o two r. omega (arith, two, regular_no_end es p x y v d ox oy xy cx cy two, o))

  sided_on : {blocks : ℕ} {res : Labelling} → ((v : ℕ) → degree (es ++ (p ∷ [])) v ≡ 2 → 1 ≤ label_at res.marks v) → Inserted es p blocks m res → Sided (es ++ (p ∷ [])) res.marks
  sided_on pos (fresh ca cb b) = sided_fresh es p pr d (bared b) b.bare (fresh_none es p ca cb)
  sided_on pos (extends x y e ny l b la i) = sided_laid es p pr d (bared b) (taps_long b.taps lg) la pos
  sided_on pos (merges x y e c cy b le la i sx sy) = sided_laid es p pr d (leaves x y la.x_end la.y_end la.x_y la.x_leaf cy) lg la pos
  sided_on pos (closes x y e c cl) = sided_closed es p pr d old (leaves x y cl.x_end cl.y_end cl.x_y cl.x_leaf cl.y_leaf) lg cl pos

-- ---- every register

-- a register is `Sided`
abbrev pub SidedIn : Register → Type 0
SidedIn r = Sided r.edges (marks_of r)

sided_empty : SidedIn empty
unfolding empty marks_of degree
sided_empty = record { low_at_lem = λ v c. absurd (omega arith); steps = λ v w e q. absurd (not-suc-le-zero q.first_at.inside) }

sided_vertex : (r : Register) → SidedIn r → SidedIn (with_vertex r)
unfolding with_vertex marks_of
sided_vertex r s = s

sided_edge : (r : Register) (p : Edge) → Labelled r → SidedIn r → Admissible r p → ((v : ℕ) → degree (with_edge r p).edges v ≡ 2 → 1 ≤ label_of (with_edge r p) v) → SidedIn (with_edge r p)
unfolding with_edge marks_of label_at
sided_edge r p c s a pos = sided_on r.edges p c.founded.proper a.lawful.differ s (long_marks r p c a) pos (edge_inserted r p c a)

-- every register that landing leaves is `Sided`
pub sided : (r : Register) → Reachable r → SidedIn r
sided r (from_empty q) = subst SidedIn (sym q) sided_empty
sided r (with_vertex_lem {r = s} k h) = let (room, is) = added s r h in subst SidedIn is (sided_vertex s (sided s k))
sided r (with_edge_lem {r = s} e k h) =
    let (a, is) = accepted s e r h in
    let pos : (v : ℕ) → degree (with_edge s e).edges v ≡ 2 → 1 ≤ label_of (with_edge s e) v =
    subst (λ (t : Register). (v : ℕ) → degree t.edges v ≡ 2 → 1 ≤ label_of t v) (sym is) (label_facts r (with_edge_lem e k h)).not_zero in
    subst SidedIn is (sided_edge s e (labelled s k) (sided s k) a pos)
