-- The invariant `Labelled`, which every landing keeps, and what follows from it: the bound of the relabellings, no label twice, none 0,
-- all small.
use mathlib.Core.Path.{◌≡◌, refl, sym, ◌∙◌}
use mathlib.Core.Logic.{◌≢◌}
use Prim.Native.Nat.{ℕ, zero, suc, ◌+◌, ◌*◌, ◌≤◌, ◌<◌}
use native.Mathlib.Omega.{arith}
use native.Mathlib.Nat.{not-suc-le-zero}
use native.Mathlib.Decide.{ℕ_discrete}
use mathlib.Core.List.{List, [], ◌∷◌, ◌++◌}
use lib.ListN.{length, get_or, replicate}
use Rattle.model.specs.Basics.{max_vertices}
use Rattle.model.specs.Graph.{Edge, degree}
use Rattle.model.specs.Labels.{Labelling, Marks, label_edge}
use Rattle.model.specs.Register.{Register, empty, label_of, marks_of, with_edge, with_vertex}
use Rattle.model.specs.Notions.{Admissible, Reachable}
use Rattle.model.proofs.Walks.Degree.{AllLawful, Proper, not_two}
use Rattle.model.proofs.Labels.Following.{label_at}
use Rattle.theory.proofs.Labels.Laid.{Inserted, fresh, extends, merges, closes}
use Rattle.theory.proofs.Labels.WearsAfter.{LongEnough}
use Rattle.theory.proofs.Labels.Inserted.{inserted}
use Rattle.theory.proofs.Labels.Singular.{BareSingular, bare_split, bare_laid, bare_close, taps_bare}
use Rattle.theory.proofs.Groups.Bound.{bound}
use Rattle.theory.proofs.Groups.Ghosts.{no_ghosts}
use Rattle.theory.proofs.Groups.Tapping.{Settled}
use Rattle.theory.proofs.Labels.Relaid.{taps_long}
use Rattle.theory.proofs.Groups.Landed.{settled_on}
use Rattle.theory.proofs.Groups.Unique.{label_unique, not_zero, label_most}
use Rattle.theory.proofs.Registers.Lawful.{ends_landed, lawful_snoc}
use Rattle.theory.proofs.Registers.Founded.{Founded, founded_edge, founded_empty, founded_vertex}
use Rattle.theory.proofs.Registers.Facts.{LabelFacts}
use Rattle.theory.proofs.Registers.Reachable.{reachable_keeps}

-- Singular vertices wear no label, and the labels have a history in groups.
pub record Labelled (r : Register) : Type 0 where
  pub founded : Founded r
  pub bare : BareSingular r.edges (marks_of r)
  pub settled : Settled r.edges r.relabellings (marks_of r) r.blocks

-- ---- one edge

bare_after : (es : List Edge) (p : Edge) → Proper es → p.first ≢ p.second → (blocks : ℕ) (m : Marks) → BareSingular es m → (res : Labelling) → length m.labels ≡ length m.lows
    → LongEnough (es ++ (p ∷ [])) m → Inserted es p blocks m res → BareSingular (es ++ (p ∷ [])) res.marks
bare_after es p pr d blocks m z res even lg (fresh ca cb b) = λ v n. bare_split es p d (taps_bare pr b.taps z) b.bare v n
bare_after es p pr d blocks m z res even lg (extends x y e ny l b la mm) = bare_laid es p d (taps_bare pr b.taps z) (taps_long b.taps lg).even la
bare_after es p pr d blocks m z res even lg (merges x y e c cy b le l mm sx sy) = bare_laid es p d z even l
bare_after es p pr d blocks m z res even lg (closes x y e c cl) = bare_close es p d z cl

module _ (r : Register) (p : Edge) (c : Labelled r) (a : Admissible r p) where
  abbrev es : List Edge
  es = r.edges

  abbrev m : Marks
  m = marks_of r

  abbrev res : Labelling
  res = label_edge r.edges p r.blocks (marks_of r)

  -- which form of an insertion it is, and that the tables of the labels have room for it
  pub edge_inserted : Inserted r.edges p r.blocks (marks_of r) (label_edge r.edges p r.blocks (marks_of r))
  edge_inserted = inserted es p c.founded.proper a.lawful.differ r.blocks m

  lawful_after : AllLawful r.vertices (es ++ (p ∷ []))
  lawful_after = lawful_snoc r.vertices es p c.founded.lawful a.lawful

  -- the tables of the labels have room for one edge more
  pub long_marks : LongEnough (r.edges ++ (p ∷ [])) (marks_of r)
  unfolding marks_of
  long_marks = record {
    long = λ v e at. omega (arith, ends_landed _ _ lawful_after v e at, c.founded.few, c.founded.labels_long);
    even = c.founded.labels_long ∙ sym c.founded.lows_long;
  }

  pub labelled_edge : Labelled (with_edge r p)
  unfolding with_edge marks_of
  labelled_edge = record {
    founded = founded_edge r p c.founded a;
    bare = bare_after es p c.founded.proper a.lawful.differ r.blocks m c.bare res long_marks.even long_marks edge_inserted;
    settled = settled_on es p c.founded.proper a.lawful.differ c.bare c.settled res a.room long_marks edge_inserted;
  }

labelled_vertex : (r : Register) → Labelled r → r.vertices < max_vertices → Labelled (with_vertex r)
unfolding with_vertex marks_of
labelled_vertex r c h = record { founded = founded_vertex r c.founded h; bare = c.bare; settled = c.settled }

zeros : (n v : ℕ) → ◌≡◌ {A = ℕ} (get_or (replicate n 0) v 0) 0
zeros zero v = refl
zeros (suc n) zero = refl
zeros (suc n) (suc v) = zeros n v

labelled_empty : Labelled empty
unfolding empty marks_of
labelled_empty = record {
  founded = founded_empty;
  bare = λ v n. zeros max_vertices v;
  settled = record { ghosts = no_ghosts _; cuts = λ e l. absurd (not-suc-le-zero l) };
}

-- every register that landing leaves
pub labelled : (r : Register) → Reachable r → Labelled r
labelled r k = reachable_keeps Labelled labelled_empty labelled_vertex (λ s e c a. labelled_edge s e c a) r k

-- ---- what theorems 3 and 4 say of the labels, but for their order along chains and rings

core_of : (r : Register) → Labelled r → LabelFacts r
unfolding marks_of label_at
core_of r c = record {
  singular_zero = λ v q. c.bare v (not_two r.edges v q);
  not_zero = not_zero r.edges c.founded.proper c.settled.ghosts c.founded.room;
  unique = label_unique r.edges c.founded.proper c.settled.ghosts c.founded.room;
  most = λ v. each v (ℕ_discrete (degree r.edges v) 2);
  bound = bound r.edges r.relabellings c.settled.ghosts.shape c.settled.ghosts.courses;
}
  where
    each : (v : ℕ) → Dec (degree r.edges v ≡ 2) → label_of r v ≤ 8192 * r.blocks + 8191
    each v (yes d) = label_most r.edges c.founded.proper c.settled.ghosts c.founded.room v d
    each v (no d) = omega (arith, c.bare v d)

-- the label facts hold of every register that landing leaves
pub label_facts : (r : Register) → Reachable r → LabelFacts r
label_facts r k = core_of r (labelled r k)
