-- Landing an edge on the tables of a register that landing leaves: the tables, counts and refusals of the definition, and whether a
-- ring may stand then.
use Rattle.std.specs.Prelude.{if◌then◌else◌}
use mathlib.Core.Path.{◌≡◌, refl, sym, ap, ap₂, ◌∙◌}
use mathlib.Core.Logic.{◌≢◌}
use Prim.Native.Nat.{ℕ, ◌+◌, ◌≤◌, ◌<◌}
use native.Mathlib.Omega.{arith}
use mathlib.Core.Bool.{Bool, true, false, not, ◌&&◌, ◌||◌, and-false}
use mathlib.Core.List.{List, [], ◌∷◌, ◌++◌}
use mathlib.Core.Option.{Option, none, some}
use lib.ListN.{length, set}
use lib.Dec.{eqb, leb, ltb}
use native.Mathlib.Decide.{dec_lt}
use borrow.Author.Tests.{lt-ltb, le-ltb}
use Rattle.model.specs.Basics.{max_edges, max_length, max_vertices, max_volume}
use Rattle.model.specs.Graph.{Edge}
use Rattle.model.specs.Cases.{closes_ring}
use Rattle.model.specs.Labels.{label_edge, relabel_count}
use Rattle.model.specs.Register.{Landed, Register, edge_refusal, land_edge_within, landed, marks_of, refused, with_edge}
use Rattle.model.specs.Tables.{Counts, Tables, counts_of, tables_of}
use Rattle.model.specs.Notions.{Reachable}
use Rattle.tables.specs.Steps.{more16, set_pair, sum32}
use Rattle.tables.proofs.Sums.{more16_is, sum32_is}
use Rattle.theory.proofs.Registers.Equality.{counts_parts, tables_parts}
use Rattle.counters.specs.Numbers.{is_landed}
use Rattle.checking.specs.Checks.{CheckIn, check_in, failed, passed}
use Rattle.placement.specs.Placing.{Placed, placed_by}
use Rattle.insertion.specs.Insertion.{LandingIn, done, insert_in, land_checked, land_in, landing_in, refused_in}
use Rattle.model.proofs.Walks.NewEdge.{length_new}
use Rattle.theory.proofs.Registers.Small.{total_small}
use Rattle.model.proofs.Registers.Accepted.{unrefused}
use Rattle.model.proofs.Registers.Quotes.{land_edge_by, unless_refused}
use Rattle.agreement.proofs.Lists.{ends_stored, lengths_stored, volumes_stored}
use Rattle.agreement.proofs.Relabelled.{relabelled_most}
use Rattle.agreement.proofs.Tables.{degrees_are, linked_sides}
use Rattle.agreement.proofs.Registers.{few, labels_long}
use Rattle.agreement.proofs.Standing.{Warns}
use Rattle.agreement.proofs.Placing.{Stands}
use Rattle.agreement.proofs.Inserting.{stands}

-- what the definition leaves, as tables and counts; then a ring may stand or not
unfoldable pub shown_in : Register → Bool → Landed → LandingIn
shown_in r rings (landed r') = landing_in (tables_of r') (done (counts_of r') rings)
shown_in r rings (refused x) = landing_in (tables_of r) (refused_in x)

-- a ring may stand after an edge: one did before, or the edge closes one
abbrev pub rings_after : Register → Bool → Edge → Bool
rings_after r rings e = rings || closes_ring r.edges e.first e.second

-- ---- an edge that passed the first refusals

-- it is written down behind the others
module _ (r : Register) (e : Edge) (rm : length r.edges < max_edges) where
  -- the ends, the lengths and the volumes with the edge, and the number of edges
  pub ends_new : set_pair (tables_of r).ends (counts_of r).edges e.first e.second ≡ (tables_of (with_edge r e)).ends
  unfolding with_edge tables_of counts_of
  ends_new = ends_stored r.edges e rm

  pub lengths_new : set (tables_of r).lengths (counts_of r).edges e.len ≡ (tables_of (with_edge r e)).lengths
  unfolding with_edge tables_of counts_of
  lengths_new = lengths_stored r.edges e rm

  pub volumes_new : set (tables_of r).volumes (counts_of r).edges e.volume ≡ (tables_of (with_edge r e)).volumes
  unfolding with_edge tables_of counts_of
  volumes_new = volumes_stored r.edges e rm

  pub edges_new : more16 (counts_of r).edges ≡ (counts_of (with_edge r e)).edges
  unfolding with_edge counts_of
  edges_new = omega (arith, more16_is (length r.edges) (omega arith), length_new r.edges e)

module _ (r : Register) (e : Edge) (rings : Bool) (g : Reachable r) (warns : Warns rings r.edges) (fa : e.first < r.vertices) (fb : e.second < r.vertices) (df : e.first ≢ e.second) (rm : length r.edges < max_edges) where
  abbrev p : Placed
  p = placed_by (tables_of r) (counts_of r) rings e

  abbrev r' : Register
  r' = with_edge r e

  st : Stands (r.edges ++ (e ∷ [])) r.labels p (label_edge r.edges e r.blocks (marks_of r)) (closes_ring r.edges e.first e.second)
  st = stands r e rings g warns fa fb df

  degrees_new : p.degrees ≡ (tables_of r').degrees
  unfolding with_edge
  degrees_new = degrees_are r' p.degrees st.long st.degrees_are

  sides_new : p.sides ≡ (tables_of r').sides
  unfolding with_edge
  sides_new = linked_sides r' p.sides st.holds.kept.sides_long (λ v l. st.holds.kept.links v l tt)

  labels_new : p.labels ≡ (tables_of r').labels
  unfolding with_edge tables_of
  labels_new = st.holds.kept.labels_are

  blocks_new : p.blocks ≡ (counts_of r').blocks
  unfolding with_edge counts_of
  blocks_new = st.holds.blocks_are

  vertices_new : (counts_of r).vertices ≡ (counts_of r').vertices
  unfolding with_edge counts_of
  vertices_new = refl

  relabellings_new : sum32 (counts_of r).relabellings p.relabellings ≡ (counts_of r').relabellings
  unfolding with_edge counts_of
  relabellings_new =
      let most : p.relabellings ≤ 4096 = omega (arith, st.counts, relabelled_most r.labels p.labels, labels_long r g) in
      sum32_is r.relabellings p.relabellings (omega (arith, total_small r g))
      ∙ ap (λ (n : ℕ). r.relabellings + n) (sym st.counts ∙ ap (λ (l : List ℕ). relabel_count r.labels l) st.holds.kept.labels_are)

  pub inserts_agree : insert_in (tables_of r) (counts_of r) rings e ≡ landing_in (tables_of r') (done (counts_of r') (rings_after r rings e))
  unfolding insert_in
  inserts_agree =
      ap₂ {C = LandingIn} (λ (t : Tables) (c : Counts). landing_in t (done c (rings || p.ring)))
      (tables_parts degrees_new sides_new (ends_new r e rm) (lengths_new r e rm) (volumes_new r e rm) labels_new)
      (counts_parts vertices_new (edges_new r e rm) blocks_new relabellings_new)
      ∙ ap (λ (t : Bool). landing_in (tables_of r') (done (counts_of r') (rings || t))) st.ring_is

-- ---- with every refusal, in its order

-- what the code's check comes to, by the model's refusal
abbrev pub checked_as : Edge → Option ℕ → CheckIn
checked_as e (some x) = failed x
checked_as e none = passed e.first e.second e.len e.volume

checked_if : (e : Edge) (b : Bool) (x : ℕ) (c : CheckIn) (o : Option ℕ) → c ≡ checked_as e o → (if b then failed x else c) ≡ checked_as e (if b then some x else o)
checked_if e true x c o h = refl
checked_if e false x c o h = h

-- a register has no vertex above the bound
landed_is : (count v : ℕ) → count ≤ max_vertices → is_landed count v ≡ ltb v count
landed_is count v few =
    elim (dec_lt v count) [
      | yes h ↦ rw (lt-ltb v max_vertices (omega arith))
      | no h ↦ rw (le-ltb v count (omega arith)) (and-false (ltb v max_vertices))
    ]

-- the code's refusals are the model's, in their order
pub check_agrees : (limit : ℕ) (r : Register) (e : Edge) → r.vertices ≤ max_vertices → check_in (counts_of r) limit e ≡ checked_as e (edge_refusal limit r e)
unfolding check_in edge_refusal counts_of
check_agrees limit r e few =
    rw (landed_is r.vertices e.first few, landed_is r.vertices e.second few)
    (checked_if e (not (ltb e.first r.vertices && ltb e.second r.vertices)) 5 _ _
    (checked_if e (eqb e.first e.second) 6 _ _
    (checked_if e (eqb e.len 0 || ltb max_length e.len) 7 _ _
    (checked_if e (ltb max_volume e.volume) 31 _ _
    (checked_if e (leb max_edges (length r.edges)) 23 _ _
    (checked_if e (leb limit (length r.edges)) 36 _ _ refl))))))

module _ (limit : ℕ) (r : Register) (e : Edge) (rings : Bool) where
  abbrev shown : Landed → LandingIn
  shown l = shown_in r (rings_after r rings e) l

  module _ (g : Reachable r) (warns : Warns rings r.edges) where
    by_refusal : (o : Option ℕ) → edge_refusal limit r e ≡ o
        → land_checked (tables_of r) (counts_of r) rings e (checked_as e o) ≡ shown (unless_refused r e o)
    unfolding shown_in
    by_refusal (some x) q = refl
    by_refusal none q =
        let a = (unrefused limit r e q).0 in
        inserts_agree r e rings g warns a.lawful.first_landed a.lawful.second_landed a.lawful.differ a.room

    -- landing an edge on the tables of a register leaves and answers what landing it in the register does
    pub land_agrees : land_in (tables_of r) (counts_of r) limit rings e ≡ shown_in r (rings_after r rings e) (land_edge_within limit r e)
    unfolding land_in
    land_agrees =
        ap (land_checked (tables_of r) (counts_of r) rings e) (check_agrees limit r e (few r g)) ∙ by_refusal (edge_refusal limit r e) refl
        ∙ ap (shown_in r (rings_after r rings e)) (sym (land_edge_by limit r e))

    -- .. in two parts, for a function that goes on by the answer
    pub edge_parts : (l : Landed) → land_edge_within limit r e ≡ l → let shows = shown_in r (rings_after r rings e) l in
        ((land_in (tables_of r) (counts_of r) limit rings e).answer ≡ shows.answer) × ((land_in (tables_of r) (counts_of r) limit rings e).tables ≡ shows.tables)
    edge_parts l q =
        let p : land_in (tables_of r) (counts_of r) limit rings e ≡ shown l = land_agrees ∙ ap (shown_in r (rings_after r rings e)) q in
        (rw p, rw p)
