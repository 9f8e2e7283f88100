-- What is read for an edge that passed the refusals (document 02, S-5): whether it would close a ring, and how many vertices it would relabel.
-- By the degrees of its ends the one or the other work is done for it, and for each what is read before is what the work then does.
use Rattle.counters.specs.declared.numbers.Vertex.{Vertex}
use Rattle.std.specs.Prelude.{if◌then◌else◌, Some, None, Option}
use mathlib.Core.Path.{◌≡◌, refl, sym, ap, ap₂, ◌∙◌}
use mathlib.Core.Logic.{◌≢◌, ◌⊎◌, inl, inr}
use Prim.Native.Nat.{ℕ, zero, suc, ◌+◌, ◌<◌}
use native.Mathlib.Omega.{arith}
use mathlib.Core.Bool.{Bool, true, false}
use mathlib.Core.List.{List}
use lib.ListN.{length}
use Rattle.model.specs.Basics.{max_vertices}
use Rattle.model.specs.Graph.{Edge, degree}
use Rattle.model.specs.Cases.{Class, branch, case_at, case_of, class_of, closes, closes_ring, isolated, leaf, regular}
use Rattle.model.specs.Labels.{base, relabel_count}
use Rattle.model.specs.Register.{Register, Terms, case_number, offers, relabels_of, with_edge}
use Rattle.model.specs.Tables.{counts_of, tables_of}
use Rattle.model.specs.Notions.{Reachable}
use Rattle.counters.specs.Numbers.{vertex_of}
use Rattle.parting.specs.Splitting.{split_ends_in, split_in}
use Rattle.parting.specs.declared.splitting.Splits.{Splits}
use Rattle.parting.specs.declared.splitting.Splits.TheVariants.{Both, Neither, One}
use Rattle.counting.specs.Counting.{estimated, round_count, split_count_in}
use Rattle.placement.specs.Placing.{goes_on_in, merged_in, opened_in, placed_by, work_for, work_in}
use Rattle.quoting.specs.Quoting.{case_in, offer_in, work_count_in}
use Rattle.placement.specs.declared.placing.Work.{Work}
use Rattle.placement.specs.declared.placing.Work.TheVariants.{Merge, Open}
use Rattle.model.proofs.Basics.Booleans.{true_or_false}
use Rattle.model.proofs.Walks.Degree.{end_first, end_second}
use Rattle.model.proofs.Walks.Ring.{closes_of}
use Rattle.agreement.proofs.Splitting.{rd_older}
use Rattle.agreement.proofs.SplittingBoth.{by_test_lem, singular_off, splits_single}
use Rattle.agreement.proofs.SplittingTwice.{both_reads}
use Rattle.agreement.proofs.Merging.{merge_reads}
use Rattle.agreement.proofs.Standing.{Warns}
use Rattle.agreement.proofs.Tables.{degrees_read, shows}
use Rattle.agreement.proofs.Registers.{few, labels_long, older, proper, room}
use Rattle.agreement.proofs.Placing.{bare, few_blocks, ground, room_at, whole}
use Rattle.agreement.proofs.Inserting.{stands}

-- a degree, by its class
data Degree (n : ℕ) : Class → Type 0 where
  none_at : n ≡ 0 → Degree n isolated
  one_at : n ≡ 1 → Degree n leaf
  two_at : n ≡ 2 → Degree n regular
  many_at : 2 < n → Degree n branch

degree_of : (n : ℕ) → Degree n (class_of n)
unfolding class_of
degree_of zero = none_at refl
degree_of (suc zero) = one_at refl
degree_of (suc (suc zero)) = two_at refl
degree_of (suc (suc (suc n))) = many_at (omega arith)

module _ (r : Register) (e : Edge) (rings : Bool) (g : Reachable r) (warns : Warns rings r.edges) (fa : e.first < r.vertices) (fb : e.second < r.vertices)
    (df : e.first ≢ e.second) where
  abbrev es : List Edge
  es = r.edges

  abbrev a : ℕ
  a = e.first

  abbrev b : ℕ
  b = e.second

  abbrev degrees : List ℕ
  degrees = (tables_of r).degrees

  abbrev sides : List ℕ
  sides = (tables_of r).sides

  abbrev ends : List ℕ
  ends = (tables_of r).ends

  -- what is read before a work is what the work then does
  abbrev Reads : Work → Type 0
  Reads w =
      work_count_in w degrees sides ends r.labels a b (length es) rings
      ≡ estimated (closes_ring es a b) (work_in w degrees sides ends r.labels r.blocks a b (length es) rings).relabellings

  -- .. and before the splits of a work; a ring may stand or not
  abbrev SplitReads : Splits → Bool → Type 0
  SplitReads x t = split_count_in x degrees sides ends a b (length es) t ≡ (split_ends_in x degrees sides ends r.labels r.blocks a b (length es) t).relabellings

  -- ---- each work

  -- no ring is closed where not both ends are leaves
  is_open : (degree es a ≡ 1 → degree es b ≡ 1 → ⊥) → closes_ring es a b ≡ false
  is_open n = go (true_or_false (closes_ring es a b))
    where
      go : (closes_ring es a b ≡ true) ⊎ (closes_ring es a b ≡ false) → closes_ring es a b ≡ false
      go (inl t) = let f = closes_of es a b t in absurd (n f.a_leaf f.b_leaf)
      go (inr t) = t

  reads_open : (x : Splits) (extension : Option Vertex) → SplitReads x rings → (degree es a ≡ 1 → degree es b ≡ 1 → ⊥) → Reads (Open x extension)
  unfolding opened_in goes_on_in
  reads_open x None s n = rw (is_open n, s)
  reads_open x (Some z) s n = rw (is_open n, s)

  reads_neither : SplitReads Neither rings
  unfolding split_count_in
  reads_neither = refl

  reads_one : (v w : ℕ) → degree es v ≡ 2 → degree es w ≢ 2 → SplitReads (One (vertex_of v) (vertex_of w)) rings
  unfolding split_count_in split_in
  reads_one v w two nw = go rings
    where
      go : (t : Bool) → SplitReads (One (vertex_of v) (vertex_of w)) t
      go false = refl
      go true =
          ap round_count (by_test_lem (proper r g) (shows r g) v w two (singular_off (proper r g) (shows r g) v w two nw))
          ∙ (splits_single (proper r g) (shows r g) (whole r e rings g warns fa fb df) r.blocks v w two nw (omega (arith, few_blocks r e rings g warns fa fb df))
          (room_at r e rings g warns fa fb df)).reads
          (λ t. rd_older (proper r g) (shows r g) v two t r.labels (base (r.blocks + 1)) (older r g))

  reads_both : degree es a ≡ 2 → degree es b ≡ 2 → SplitReads Both rings
  unfolding split_count_in
  reads_both ca cb = go rings
    where
      go : (t : Bool) → SplitReads Both t
      go false = refl
      go true =
          both_reads (proper r g) (shows r g) (whole r e rings g warns fa fb df) r.blocks a b ca cb df (omega (arith, few_blocks r e rings g warns fa fb df))
          (omega (arith, few_blocks r e rings g warns fa fb df, room r g)) (omega (arith, labels_long r g)) (older r g)

  reads_merge : degree es a ≡ 1 → degree es b ≡ 1 → Reads Merge
  unfolding merged_in
  reads_merge la lb =
      merge_reads (ground r e rings g warns fa fb df la lb) a b la lb (end_first e df) (end_second e df) df r.blocks
      (bare r e rings g warns fa fb df la lb a la) (bare r e rings g warns fa fb df la lb b lb)

  -- ---- by the degrees

  by_degrees : {c k : Class} → Degree (degree es a) c → Degree (degree es b) k → Reads (work_for (case_of c k) a b)
  unfolding case_of
  by_degrees (none_at p) (none_at q) = reads_open Neither None reads_neither (λ l k. omega arith)
  by_degrees (none_at p) (one_at q) = reads_open Neither (Some (vertex_of b)) reads_neither (λ l k. omega arith)
  by_degrees (none_at p) (two_at q) = reads_open (One (vertex_of b) (vertex_of a)) None (reads_one b a q (λ z. omega arith)) (λ l k. omega arith)
  by_degrees (none_at p) (many_at q) = reads_open Neither None reads_neither (λ l k. omega arith)
  by_degrees (one_at p) (none_at q) = reads_open Neither (Some (vertex_of a)) reads_neither (λ l k. omega arith)
  by_degrees (one_at p) (one_at q) = reads_merge p q
  by_degrees (one_at p) (two_at q) = reads_open (One (vertex_of b) (vertex_of a)) (Some (vertex_of a)) (reads_one b a q (λ z. omega arith)) (λ l k. omega arith)
  by_degrees (one_at p) (many_at q) = reads_open Neither (Some (vertex_of a)) reads_neither (λ l k. omega arith)
  by_degrees (two_at p) (none_at q) = reads_open (One (vertex_of a) (vertex_of b)) None (reads_one a b p (λ z. omega arith)) (λ l k. omega arith)
  by_degrees (two_at p) (one_at q) = reads_open (One (vertex_of a) (vertex_of b)) (Some (vertex_of b)) (reads_one a b p (λ z. omega arith)) (λ l k. omega arith)
  by_degrees (two_at p) (two_at q) = reads_open Both None (reads_both p q) (λ l k. omega arith)
  by_degrees (two_at p) (many_at q) = reads_open (One (vertex_of a) (vertex_of b)) None (reads_one a b p (λ z. omega arith)) (λ l k. omega arith)
  by_degrees (many_at p) (none_at q) = reads_open Neither None reads_neither (λ l k. omega arith)
  by_degrees (many_at p) (one_at q) = reads_open Neither (Some (vertex_of b)) reads_neither (λ l k. omega arith)
  by_degrees (many_at p) (two_at q) = reads_open (One (vertex_of b) (vertex_of a)) None (reads_one b a q (λ z. omega arith)) (λ l k. omega arith)
  by_degrees (many_at p) (many_at q) = reads_open Neither None reads_neither (λ l k. omega arith)

  below_a : a < max_vertices
  below_a = omega (arith, few r g)

  below_b : b < max_vertices
  below_b = omega (arith, few r g)

  reads : Reads (work_for (case_in degrees a b) a b)
  reads = rw (degrees_read r a below_a, degrees_read r b below_b) (by_degrees (degree_of (degree es a)) (degree_of (degree es b)))

  -- 7 exactly if a ring is closed, else the case by the degrees
  case_is : (if closes_ring es a b then 7 else case_number (case_in degrees a b)) ≡ case_number (case_at es e)
  unfolding case_at case_number
  case_is = rw (degrees_read r a below_a, degrees_read r b below_b) (go (closes_ring es a b))
    where
      go : (t : Bool) → (if t then 7 else case_number (case_of (class_of (degree es a)) (class_of (degree es b))))
          ≡ case_number (if t then closes else case_of (class_of (degree es a)) (class_of (degree es b)))
      go true = refl
      go false = refl

  -- the number written is the number of labels that change
  relabels_are : (placed_by (tables_of r) (counts_of r) rings e).relabellings ≡ relabels_of r e
  unfolding relabels_of with_edge
  relabels_are =
      let st = stands r e rings g warns fa fb df in
      sym st.counts ∙ ap (relabel_count r.labels) st.holds.kept.labels_are

  -- what is offered by what is read is what the definition offers
  pub offers_agree : offer_in (case_in degrees a b) (work_count_in (work_for (case_in degrees a b) a b) degrees sides ends r.labels a b (length es) rings)
      ≡ offers (case_number (case_at es e)) (relabels_of r e)
  unfolding offer_in tables_of counts_of
  offers_agree = ap (offer_in (case_in degrees a b)) reads ∙ ap₂ {C = Terms} offers case_is relabels_are
