-- One edge into the tables of a register that landing leaves, in every case: the degrees, sides, labels and counts that the definitions
-- leave, and whether it closes a ring.
use Rattle.std.specs.Prelude.{if◌then◌else◌}
use mathlib.Core.Path.{◌≡◌, refl, sym, ap₂, ◌∙◌}
use mathlib.Core.Logic.{◌≢◌}
use Prim.Native.Nat.{ℕ, ◌<◌}
use native.Mathlib.Omega.{arith}
use native.Mathlib.Decide.{ℕ_discrete}
use mathlib.Core.Bool.{Bool, true, false}
use mathlib.Core.List.{List, [], ◌∷◌, ◌++◌}
use lib.ListN.{length, get_or}
use lib.Dec.{eqb}
use borrow.Author.Tests.{eq-eqb, ne_eqb}
use Rattle.model.specs.Basics.{max_vertices}
use Rattle.model.specs.Graph.{Edge, degree, ends_at, is_leaf, is_regular}
use Rattle.model.specs.Cases.{closes_ring}
use Rattle.model.specs.Labels.{Marks, close, label_edge}
use Rattle.model.specs.Register.{Register, marks_of}
use Rattle.model.specs.Tables.{counts_of, tables_of}
use Rattle.model.specs.Notions.{Reachable}
use Rattle.placement.specs.Placing.{Placed, placed_by}
use Rattle.model.proofs.Walks.Degree.{end_first, end_second}
use Rattle.model.proofs.Walks.Ring.{closes_of}
use Rattle.theory.proofs.Labels.Cases.{bared, compact, edge_compact}
use Rattle.agreement.proofs.Cases.{by_ends, place_ends}
use Rattle.agreement.proofs.Standing.{Warns}
use Rattle.agreement.proofs.Tables.{degrees_read}
use Rattle.agreement.proofs.Registers.{few}
use Rattle.agreement.proofs.Placing.{Stands, both_stands, close_stands, extend_stands, merge_stands, new_stands, split_extend_stands, split_stands}

module _ (r : Register) (e : Edge) (rings : Bool) (g : Reachable r) (warns : Warns rings r.edges) (fa : e.first < r.vertices) (fb : e.second < r.vertices)
    (df : e.first ≢ e.second) where
  abbrev es : List Edge
  es = r.edges

  abbrev new : List Edge
  new = r.edges ++ (e ∷ [])

  abbrev a : ℕ
  a = e.first

  abbrev b : ℕ
  b = e.second

  abbrev degrees : List ℕ
  degrees = (tables_of r).degrees

  abbrev sides : List ℕ
  sides = (tables_of r).sides

  abbrev ends : List ℕ
  ends = (tables_of r).ends

  abbrev m : Marks
  m = record { labels = r.labels; lows = r.lows }

  below_a : a < max_vertices
  below_a = omega (arith, few r g)

  below_b : b < max_vertices
  below_b = omega (arith, few r g)

  oa : ends_at a e ≡ 1
  oa = end_first e df

  ob : ends_at b e ≡ 1
  ob = end_second e df

  ba : b ≢ a
  ba q = df (sym q)

  abbrev placing : Placed
  placing = by_ends degrees sides ends r.labels r.blocks a b (length es) rings (eqb (degree es a) 1) (eqb (degree es b) 1) (eqb (degree es a) 2) (eqb (degree es b) 2)

  placing_is : placed_by (tables_of r) (counts_of r) rings e ≡ placing
  unfolding tables_of counts_of
  placing_is =
      place_ends degrees sides ends r.labels r.blocks a b (length es) rings (get_or degrees a 0) (get_or degrees b 0)
      ∙ ap₂ {C = Placed} (λ (p q : ℕ). by_ends degrees sides ends r.labels r.blocks a b (length es) rings (eqb p 1) (eqb q 1) (eqb p 2) (eqb q 2))
      (degrees_read r a below_a) (degrees_read r b below_b)

  -- no ring is closed
  abbrev Stood : Type 0
  Stood = Stands new r.labels placing (compact (eqb (degree es a) 1) (eqb (degree es b) 1) (eqb (degree es a) 2) (eqb (degree es b) 2) es e r.blocks m) false

  stands_open : closes_ring es a b ≡ false → Stood
  unfolding compact bared
  stands_open o = go (ℕ_discrete (degree es a) 1) (ℕ_discrete (degree es b) 1) (ℕ_discrete (degree es a) 2) (ℕ_discrete (degree es b) 2)
    where
      go : Dec (degree es a ≡ 1) → Dec (degree es b ≡ 1) → Dec (degree es a ≡ 2) → Dec (degree es b ≡ 2) → Stood
      go (yes p) (yes q) s t = rw (eq-eqb (degree es a) 1 p, eq-eqb (degree es b) 1 q) (merge_stands r e rings g warns fa fb df p q o)
      go (yes p) (no q) s (yes t) =
          let n : degree es a ≢ 2 = λ z. omega arith in
          rw (eq-eqb (degree es a) 1 p, ne_eqb (degree es b) 1 q, ne_eqb (degree es a) 2 n, eq-eqb (degree es b) 2 t) (split_extend_stands r e rings g warns fa fb df b a ob oa ba t n p)
      go (yes p) (no q) s (no t) =
          let n : degree es a ≢ 2 = λ z. omega arith in
          rw (eq-eqb (degree es a) 1 p, ne_eqb (degree es b) 1 q, ne_eqb (degree es a) 2 n, ne_eqb (degree es b) 2 t) (extend_stands r e rings g warns fa fb df n t a b oa ob df p q)
      go (no p) (yes q) (yes s) t =
          let n : degree es b ≢ 2 = λ z. omega arith in
          rw (ne_eqb (degree es a) 1 p, eq-eqb (degree es b) 1 q, eq-eqb (degree es a) 2 s, ne_eqb (degree es b) 2 n) (split_extend_stands r e rings g warns fa fb df a b oa ob df s n q)
      go (no p) (yes q) (no s) t =
          let n : degree es b ≢ 2 = λ z. omega arith in
          rw (ne_eqb (degree es a) 1 p, eq-eqb (degree es b) 1 q, ne_eqb (degree es a) 2 s, ne_eqb (degree es b) 2 n) (extend_stands r e rings g warns fa fb df s n b a ob oa ba q p)
      go (no p) (no q) (yes s) (yes t) =
          rw (ne_eqb (degree es a) 1 p, ne_eqb (degree es b) 1 q, eq-eqb (degree es a) 2 s, eq-eqb (degree es b) 2 t) (both_stands r e rings g warns fa fb df s t)
      go (no p) (no q) (yes s) (no t) =
          rw (ne_eqb (degree es a) 1 p, ne_eqb (degree es b) 1 q, eq-eqb (degree es a) 2 s, ne_eqb (degree es b) 2 t) (split_stands r e rings g warns fa fb df a b oa ob df s t p q)
      go (no p) (no q) (no s) (yes t) =
          rw (ne_eqb (degree es a) 1 p, ne_eqb (degree es b) 1 q, ne_eqb (degree es a) 2 s, eq-eqb (degree es b) 2 t) (split_stands r e rings g warns fa fb df b a ob oa ba t s p q)
      go (no p) (no q) (no s) (no t) =
          rw (ne_eqb (degree es a) 1 p, ne_eqb (degree es b) 1 q, ne_eqb (degree es a) 2 s, ne_eqb (degree es b) 2 t) (new_stands r e rings g warns fa fb df s t p q)

  -- the tables stand as the labelling of the edge says
  pub stands : Stands (r.edges ++ (e ∷ [])) r.labels (placed_by (tables_of r) (counts_of r) rings e) (label_edge r.edges e r.blocks (marks_of r))
      (closes_ring r.edges e.first e.second)
  unfolding is_leaf is_regular marks_of
  stands = rw (placing_is, edge_compact es e r.blocks m) (go (closes_ring es a b) refl)
    where
      go : (t : Bool) → closes_ring es a b ≡ t
          → Stands new r.labels placing
          (if t then close es r.blocks a b m else compact (eqb (degree es a) 1) (eqb (degree es b) 1) (eqb (degree es a) 2) (eqb (degree es b) 2) es e r.blocks m) t
      go true o =
          let f = closes_of es a b o in
          rw (eq-eqb (degree es a) 1 f.a_leaf, eq-eqb (degree es b) 1 f.b_leaf) (close_stands r e rings g warns fa fb df f.a_leaf f.b_leaf o)
      go false o = stands_open o
