-- A whole list on the tables of a register that landing leaves: the tables, counts and answer of the definition.
use mathlib.Core.Path.{◌≡◌, refl, sym, ap, ◌∙◌, subst}
use Prim.Native.Nat.{ℕ}
use native.Mathlib.Omega.{arith}
use mathlib.Core.Bool.{Bool, true, false}
use mathlib.Core.List.{List, [], ◌∷◌}
use lib.Dec.{leb, ltb}
use borrow.Author.Tests.{leb-false}
use Rattle.model.specs.Basics.{max_vertices, up_to}
use Rattle.model.specs.Graph.{Edge}
use Rattle.model.specs.Register.{Landed, Register, land_edge_within, land_vertex, landed, refused, with_vertex}
use Rattle.model.specs.Format.{Read, land_list}
use Rattle.model.specs.Tables.{Counts, Tables, counts_of, high_side, low_side, sides_of, tables_of}
use Rattle.model.specs.Notions.{Reachable}
use Rattle.tables.proofs.Sums.{more16_is}
use Rattle.agreement.proofs.Standing.{Warns, warns_edge, warns_first, warns_vertex}
use Rattle.insertion.specs.Insertion.{LandingIn, land_in, land_vertex_in}
use Rattle.agreement.proofs.Landing.{edge_parts, rings_after, shown_in}
use Rattle.landing.specs.Records.{ReadingIn, land_list_in, reading_in}
use Rattle.model.proofs.Registers.Accepted.{added, within_lands}
use Rattle.landing.proofs.Following.{Follows, list_follows}

-- what the definition leaves, as tables, counts and answer
abbrev pub shown_read : Read → ReadingIn
shown_read d = reading_in (tables_of d.register) (counts_of d.register) d.stop

-- ---- a vertex

vertex_sides : (r : Register) (vs : List ℕ) → sides_of (with_vertex r) vs ≡ sides_of r vs
unfolding sides_of with_vertex low_side high_side
vertex_sides r [] = refl
vertex_sides r (v ∷ vs) = ap (λ (l : List ℕ). low_side r v ∷ high_side r v ∷ l) (vertex_sides r vs)

-- it changes no table
pub with_vertex_tables : (r : Register) → tables_of (with_vertex r) ≡ tables_of r
unfolding tables_of with_vertex
with_vertex_tables r = rw (vertex_sides r (up_to max_vertices))

vertex_tables : (r r' : Register) → land_vertex r ≡ landed r' → tables_of r' ≡ tables_of r
vertex_tables r r' e = subst (λ (s : Register). tables_of s ≡ tables_of r) (added r r' e).1 (with_vertex_tables r)

vertex_agrees : (r : Register) (rings : Bool) → land_vertex_in (counts_of r) rings ≡ (shown_in r rings (land_vertex r)).answer
unfolding land_vertex_in land_vertex counts_of with_vertex shown_in
vertex_agrees r rings = go (leb max_vertices r.vertices) refl
  where
    go : (b : Bool) → leb max_vertices r.vertices ≡ b → land_vertex_in (counts_of r) rings ≡ (shown_in r rings (land_vertex r)).answer
    go true e = rw e
    go false e = rw (e, more16_is r.vertices (omega (arith, leb-false max_vertices r.vertices e)))

vertex_answer : (r : Register) (rings : Bool) (l : Landed) → land_vertex r ≡ l → land_vertex_in (counts_of r) rings ≡ (shown_in r rings l).answer
vertex_answer r rings l e = vertex_agrees r rings ∙ ap (λ (m : Landed). (shown_in r rings m).answer) e

-- ---- records, and the list

-- the tables and counts are those of the register, and a ring that stands is told
record Shown (r : Register) (rings : Bool) (t : Tables) (c : Counts) : Type 0 where
  tables_are : t ≡ tables_of r
  counts_are : c ≡ counts_of r
  warns : Warns rings r.edges

vertex_follows : (r : Register) (rings : Bool) (t : Tables) (c : Counts) → Reachable r → Shown r rings t c → Follows Shown r rings c (land_vertex r) t (land_vertex_in c rings)
unfolding shown_in
vertex_follows r rings t c g s = go (land_vertex r) refl
  where
    go : (l : Landed) → land_vertex r ≡ l → Follows Shown r rings c l t (land_vertex_in c rings)
    go (landed r') f =
        record {
          counts = counts_of r';
          rings = rings;
          answers = rw s.counts_are (vertex_answer r rings (landed r') f);
          shows = record { tables_are = s.tables_are ∙ sym (vertex_tables r r' f); counts_are = refl; warns = warns_vertex r r' rings f s.warns };
        }
    go (refused x) f = (rw s.counts_are (vertex_answer r rings (refused x) f), s)

edge_follows : (limit : ℕ) (r : Register) (rings : Bool) (t : Tables) (c : Counts) (e : Edge) → Reachable r → Shown r rings t c
    → Follows Shown r rings c (land_edge_within limit r e) (land_in t c limit rings e).tables (land_in t c limit rings e).answer
unfolding shown_in
edge_follows limit r rings t c e g s = rw (s.tables_are, s.counts_are) (go (land_edge_within limit r e) refl)
  where
    own : LandingIn
    own = land_in (tables_of r) (counts_of r) limit rings e

    go : (l : Landed) → land_edge_within limit r e ≡ l → Follows Shown r rings (counts_of r) l own.tables own.answer
    go (landed r') f =
        let a = edge_parts limit r e rings g s.warns (landed r') f in
        record {
          counts = counts_of r';
          rings = rings_after r rings e;
          answers = a.0;
          shows = record { tables_are = a.1; counts_are = refl; warns = warns_edge r e r' rings g (within_lands limit r e r' f) s.warns };
        }
    go (refused x) f =
        let a = edge_parts limit r e rings g s.warns (refused x) f in
        (a.0, record { tables_are = a.1; counts_are = refl; warns = s.warns })

first_warns : (r : Register) → Warns (ltb 0 (counts_of r).edges) r.edges
unfolding counts_of
first_warns r = warns_first r.edges

-- landing a list on a register's tables leaves what `land_list` says
pub list_agrees : (limit : ℕ) (r : Register) (bs : List ℕ) → Reachable r → land_list_in (tables_of r) (counts_of r) limit bs ≡ shown_read (land_list limit r bs)
list_agrees limit r bs g =
    let k = list_follows Shown land_in limit vertex_follows (edge_follows limit) r (tables_of r) (counts_of r) bs g (record { tables_are = refl; counts_are = refl; warns = first_warns r }) in
    λ i. reading_in (k.shows.tables_are i) (k.shows.counts_are i) (k.stops i)
