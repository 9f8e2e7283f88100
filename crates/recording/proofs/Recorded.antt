-- A list that is recorded stops where the list stops that is landed, for the same refusal, and leaves the same degrees, ends, lengths and
-- volumes, and sides that turn as the edges do. So the sheet and every distance are those of the register.
use mathlib.Core.Path.{◌≡◌, refl, sym, ap, ◌∙◌}
use Prim.Native.Nat.{ℕ, ◌*◌, ◌<◌}
use native.Mathlib.Omega.{arith}
use mathlib.Core.Bool.{Bool, true, false}
use mathlib.Core.List.{List, []}
use mathlib.Core.Option.{Option, none, some}
use lib.ListN.{length, get_or}
use lib.Dec.{leb}
use borrow.Author.Tests.{leb-false}
use Rattle.model.specs.Basics.{max_edges, max_vertices}
use Rattle.model.specs.Graph.{Edge, degree, ends_at, turn}
use Rattle.model.specs.Register.{Register, edge_refusal, empty, land_edge_within, land_vertex, landed, refused, with_edge, with_vertex}
use Rattle.model.specs.Format.{grow_list}
use Rattle.model.specs.Tables.{Counts, Tables, cleared, counts_of, no_counts, tables_of}
use Rattle.model.specs.Notions.{Reachable}
use Rattle.counters.specs.Answers.{counts}
use Rattle.tables.specs.Meaning.{tables}
use Rattle.tables.specs.Steps.{more16, raise_both_in, turn_in}
use Rattle.tables.proofs.Sums.{more16_is}
use Rattle.model.proofs.Registers.Accepted.{unrefused}
use Rattle.model.proofs.Registers.Quotes.{land_edge_by, unless_refused}
use Rattle.theory.proofs.Registers.Reachable.{reachable_empty}
use Rattle.model.proofs.Walks.Turn.{At}
use Rattle.checking.specs.Checks.{check_in}
use Rattle.insertion.specs.Insertion.{done, land_vertex_in, refused_in}
use Rattle.agreement.proofs.Landing.{check_agrees, checked_as, edges_new, ends_new, lengths_new, volumes_new}
use Rattle.agreement.proofs.Registers.{few, proper, room}
use Rattle.agreement.proofs.Tables.{degrees_are, degrees_long, degrees_read, length_raised, raised}
use Rattle.landing.specs.Records.{land_list_by}
use Rattle.landing.proofs.Following.{Follows, Together, list_follows}
use Rattle.landing.proofs.Growing.{empty_tables}
use Rattle.landing.proofs.ListAgrees.{with_vertex_tables}
use Rattle.recording.specs.Unlabelled.{note_edge_in, unlabelled_checked, unlabelled_in}
use Rattle.recording.proofs.Noting.{Noted, both_long, both_noted, noted_turns}

-- what recording leaves of a register: all but labels, births and relabellings
pub record Recorded (r : Register) (rings : Bool) (t : Tables) (c : Counts) : Type 0 where
  pub degrees_same : t.degrees ≡ (tables_of r).degrees
  pub ends_same : t.ends ≡ (tables_of r).ends
  pub lengths_same : t.lengths ≡ (tables_of r).lengths
  pub volumes_same : t.volumes ≡ (tables_of r).volumes
  pub sides_long : length t.sides ≡ 2 * max_vertices
  pub noted : (v : ℕ) → v < max_vertices → Noted r.edges t.sides v
  pub vertices_same : c.vertices ≡ (counts_of r).vertices
  pub edges_same : c.edges ≡ (counts_of r).edges

-- the sides turn as the edges do
pub recorded_turns : (r : Register) (rings : Bool) (t : Tables) (c : Counts) → Reachable r → Recorded r rings t c
    → (v d : ℕ) → v < max_vertices → degree r.edges v ≡ 2 → At r.edges v d → turn_in t.sides d v ≡ turn r.edges d v
recorded_turns r rings t c g s v d l two a = noted_turns r.edges t.sides v d (proper r g) (s.noted v l) two a

-- ---- a vertex

-- no room for it
vertex_full : (r : Register) (c : Counts) (rings : Bool) → c.vertices ≡ (counts_of r).vertices → leb max_vertices r.vertices ≡ true
    → (land_vertex r ≡ refused 22) × (land_vertex_in c rings ≡ refused_in 22)
unfolding land_vertex land_vertex_in counts_of
vertex_full r c rings h e = (rw e, rw (h, e))

abbrev with_one : Register → Counts → Counts
with_one r c = counts (more16 r.vertices) c.edges c.blocks c.relabellings

vertex_more : (r : Register) (c : Counts) (rings : Bool) → c.vertices ≡ (counts_of r).vertices → leb max_vertices r.vertices ≡ false
    → (land_vertex r ≡ landed (with_vertex r)) × (land_vertex_in c rings ≡ done (with_one r c) rings)
unfolding land_vertex land_vertex_in counts_of
vertex_more r c rings h e = (rw e, rw (h, e))

with_vertex_recorded : (r : Register) (rings : Bool) (t : Tables) (c : Counts) → r.vertices < max_vertices → Recorded r rings t c → Recorded (with_vertex r) rings t (with_one r c)
unfolding counts_of with_vertex
with_vertex_recorded r rings t c l s =
    let stays = with_vertex_tables r in
    record {
      degrees_same = s.degrees_same ∙ ap (λ (u : Tables). u.degrees) (sym stays);
      ends_same = s.ends_same ∙ ap (λ (u : Tables). u.ends) (sym stays);
      lengths_same = s.lengths_same ∙ ap (λ (u : Tables). u.lengths) (sym stays);
      volumes_same = s.volumes_same ∙ ap (λ (u : Tables). u.volumes) (sym stays);
      sides_long = s.sides_long;
      noted = s.noted;
      vertices_same = more16_is r.vertices (omega arith);
      edges_same = s.edges_same;
    }

vertex_follows : (r : Register) (rings : Bool) (t : Tables) (c : Counts) → Reachable r → Recorded r rings t c
    → Follows Recorded r rings c (land_vertex r) t (land_vertex_in c rings)
vertex_follows r rings t c g s = go (leb max_vertices r.vertices) refl
  where
    go : (b : Bool) → leb max_vertices r.vertices ≡ b → Follows Recorded r rings c (land_vertex r) t (land_vertex_in c rings)
    go true e = let q = vertex_full r c rings s.vertices_same e in rw q.0 (q.1, s)
    go false e =
        let q = vertex_more r c rings s.vertices_same e in
        rw q.0 (record {
          counts = with_one r c;
          rings = rings;
          answers = q.1;
          shows = with_vertex_recorded r rings t c (leb-false max_vertices r.vertices e) s;
        })

-- ---- an edge

check_same : (r : Register) (rings : Bool) (t : Tables) (c : Counts) (limit : ℕ) (e : Edge) → Reachable r → Recorded r rings t c
    → check_in c limit e ≡ checked_as e (edge_refusal limit r e)
unfolding check_in
check_same r rings t c limit e g s = rw (s.vertices_same, s.edges_same) (check_agrees limit r e (few r g))

module _ (r : Register) (rings : Bool) (t : Tables) (c : Counts) (e : Edge) (g : Reachable r) (s : Recorded r rings t c) where
  noted_edge : edge_refusal max_edges r e ≡ none → let l = note_edge_in t c rings e in
      Recorded (with_edge r e) rings l.tables (counts c.vertices (more16 c.edges) c.blocks c.relabellings)
  unfolding note_edge_in with_edge counts_of ends_at
  noted_edge q =
      let a = (unrefused max_edges r e q).0 in
      let df = a.lawful.differ in
      let la : e.first < max_vertices = omega (arith, a.lawful.first_landed, few r g) in
      let lb : e.second < max_vertices = omega (arith, a.lawful.second_landed, few r g) in
      let ds : (v : ℕ) → v < max_vertices → get_or t.degrees v 0 ≡ degree r.edges v = λ v l. rw s.degrees_same (degrees_read r v l) in
      let long : length t.degrees ≡ max_vertices = rw s.degrees_same (degrees_long r) in
      record {
        degrees_same = degrees_are (with_edge r e) (raise_both_in t.degrees e.first e.second) (length_raised t.degrees e.first e.second ∙ long)
            (raised r.edges e t.degrees e.first e.second (proper r g) (room r g) long la lb (λ v. refl) ds);
        ends_same = rw (s.ends_same, s.edges_same) (ends_new r e a.room);
        lengths_same = rw (s.lengths_same, s.edges_same) (lengths_new r e a.room);
        volumes_same = rw (s.volumes_same, s.edges_same) (volumes_new r e a.room);
        sides_long = rw s.edges_same (both_long r.edges e (proper r g) df t.degrees t.sides la lb ds s.sides_long);
        noted = rw s.edges_same (both_noted r.edges e (proper r g) df t.degrees t.sides la lb ds s.sides_long s.noted);
        vertices_same = s.vertices_same;
        edges_same = rw s.edges_same (edges_new r e a.room);
      }

  edge_follows : Follows Recorded r rings c (land_edge_within max_edges r e) (unlabelled_in t c max_edges rings e).tables (unlabelled_in t c max_edges rings e).answer
  unfolding unlabelled_in note_edge_in
  edge_follows = rw (land_edge_by max_edges r e, check_same r rings t c max_edges e g s) (go (edge_refusal max_edges r e) refl)
    where
      go : (o : Option ℕ) → edge_refusal max_edges r e ≡ o
          → let l = unlabelled_checked t c rings (checked_as e o) in Follows Recorded r rings c (unless_refused r e o) l.tables l.answer
      go (some x) q = (refl, s)
      go none q = record { counts = counts c.vertices (more16 c.edges) c.blocks c.relabellings; rings = rings; answers = refl; shows = noted_edge q }

-- ---- a list

-- cleared tables, of which recording is lent all but the labels
abbrev pub unlabelled : Tables → Tables
unlabelled t = tables t.degrees t.sides t.ends t.lengths t.volumes []

none_recorded : Recorded empty false (unlabelled cleared) no_counts
unfolding empty counts_of no_counts degree cleared
none_recorded =
    record {
      degrees_same = ap (λ (u : Tables). u.degrees) (sym empty_tables);
      ends_same = ap (λ (u : Tables). u.ends) (sym empty_tables);
      lengths_same = ap (λ (u : Tables). u.lengths) (sym empty_tables);
      volumes_same = ap (λ (u : Tables). u.volumes) (sym empty_tables);
      sides_long = refl;
      noted = λ v l. record { leaf = λ one. absurd (omega (arith, one)); regular = λ two. absurd (omega (arith, two)) };
      vertices_same = refl;
      edges_same = refl;
    }

-- a list recorded on cleared tables stops as growing from it does, and leaves all of its register but what labels are
pub list_recorded : (bs : List ℕ) → Together Recorded (land_list_by unlabelled_in (unlabelled cleared) no_counts max_edges bs) (grow_list bs)
unfolding grow_list no_counts
list_recorded bs = list_follows Recorded unlabelled_in max_edges vertex_follows edge_follows empty (unlabelled cleared) no_counts bs reachable_empty none_recorded
