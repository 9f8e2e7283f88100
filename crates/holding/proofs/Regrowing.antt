-- The tables' own vertices and edges landed again on cleared tables, and grown again by the definition: both leave the same, or are refused alike.
use mathlib.Core.Path.{◌≡◌, refl}
use Prim.Native.Nat.{ℕ, zero, suc, ◌+◌, ◌≤◌, ◌<◌}
use native.Mathlib.Omega.{arith}
use native.Mathlib.Decide.{dec_le}
use mathlib.Core.Option.{some}
use mathlib.Core.Bool.{Bool, false}
use mathlib.Core.List.{List, map}
use borrow.Author.Tests.{le-leb, lt-leb}
use Rattle.model.specs.Basics.{count_from, max_edges, max_vertices, up_to}
use Rattle.model.specs.Graph.{Edge}
use Rattle.model.specs.Register.{Landed, Register, empty, land_edge, land_vertex, landed, refused, with_vertex}
use Rattle.model.specs.Tables.{Counts, Tables, cleared, counts_of, stored_edge, stored_edges, grow_from, land_edges, land_vertices, tables_of}
use Rattle.model.specs.Notions.{Reachable, with_edge_lem}
use Rattle.model.proofs.Computing.{computing}
use Rattle.tables.specs.Meaning.{stored}
use Rattle.tables.specs.Steps.{edge_of}
use Rattle.counters.specs.Answers.{counts}
use Rattle.insertion.specs.Insertion.{LandingIn, land_in, refused_in}
use Rattle.theory.proofs.Registers.Held.{grown_from, on_vertices, vertices_grow}
use Rattle.theory.proofs.Registers.OnlyHeld.{vertices_reach}
use Rattle.theory.proofs.Registers.Reachable.{reachable_empty}
use Rattle.agreement.proofs.Standing.{Warns, warns_edge}
use Rattle.agreement.proofs.Landing.{edge_parts, rings_after, shown_in}
use Rattle.holding.specs.Replay.{left_by, regrow_in, replay_in}
use Rattle.model.proofs.Registers.Accepted.{vertex_lands}

-- ---- edges one after the other

-- an edge without a licence
own_parts : (r : Register) (e : Edge) (rings : Bool) → Reachable r → Warns rings r.edges → (l : Landed) → land_edge r e ≡ l
    → let left = land_in (tables_of r) (counts_of r) max_edges rings e in
    let shows = shown_in r (rings_after r rings e) l in
    (left.answer ≡ shows.answer) × (left.tables ≡ shows.tables)
unfolding land_edge
own_parts r e rings g w l q = edge_parts max_edges r e rings g w l q

-- what the tables answer, of what the definition leaves: the same register, or the same refusal
abbrev pub Agrees : Landed → LandingIn → Type 0
Agrees (landed r) l = left_by l ≡ some (stored (tables_of r) (counts_of r))
Agrees (refused x) l = l.answer ≡ refused_in x

module _ (own : Tables) where
  own_is : (e : ℕ) → edge_of own.ends own.lengths own.volumes e ≡ stored_edge own e
  unfolding stored_edge
  own_is e = refl

  -- n edges from number e on
  abbrev edges_from : ℕ → ℕ → List Edge
  edges_from n e = map (stored_edge own) (count_from e n)

  replay_agrees : (n e : ℕ) (r : Register) (rings : Bool) → Reachable r → Warns rings r.edges
      → Agrees (land_edges (edges_from n e) r) (replay_in own.ends own.lengths own.volumes n e (tables_of r) (counts_of r) rings)
  unfolding replay_in land_edges count_from shown_in
  replay_agrees zero e r rings g w = refl
  replay_agrees (suc n) e r rings g w = go (land_edge r (stored_edge own e)) refl (λ r' rings' h w'. replay_agrees n (e + 1) r' rings' h w')
    where
      next : e + 1 ≡ suc e
      next = omega arith

      go : (l : Landed) → land_edge r (stored_edge own e) ≡ l
          → ((r' : Register) (rings' : Bool) → Reachable r' → Warns rings' r'.edges
          → Agrees (land_edges (edges_from n (e + 1)) r') (replay_in own.ends own.lengths own.volumes n (e + 1) (tables_of r') (counts_of r') rings'))
          → Agrees (land_edges (edges_from (suc n) e) r) (replay_in own.ends own.lengths own.volumes (suc n) e (tables_of r) (counts_of r) rings)
      go (landed r') q ih =
          let p = own_parts r (stored_edge own e) rings g w (landed r') q in
          rw (q, own_is e, p.0, replay_in, land_edges, own_is e, p.1, ← next) (ih r' _ (with_edge_lem (stored_edge own e) g q) (warns_edge r (stored_edge own e) r' rings g q w))
      go (refused x) q ih =
          let p = own_parts r (stored_edge own e) rings g w (refused x) q in
          rw (q, own_is e, p.0, replay_in, land_edges, own_is e) p.0

-- ---- vertices alone

module _ (n : ℕ) where
  on_tables : tables_of (on_vertices n) ≡ cleared
  unfolding computing on_vertices
  on_tables = refl

  on_counts : counts_of (on_vertices n) ≡ counts n 0 0 0
  unfolding counts_of on_vertices
  on_counts = refl

  on_warns : Warns false (on_vertices n).edges
  unfolding on_vertices
  on_warns f d l = absurd (omega arith)

  on_reachable : n ≤ max_vertices → Reachable (on_vertices n)
  on_reachable h = vertices_reach n empty (on_vertices n) reachable_empty (vertices_grow n h)

-- more than 4,096 are refused
full_refused : (r : Register) → max_vertices ≤ r.vertices → land_vertex r ≡ refused 22
unfolding land_vertex
full_refused r h = rw (le-leb max_vertices r.vertices h)

one_more : (r : Register) → (with_vertex r).vertices ≡ r.vertices + 1
unfolding with_vertex
one_more r = refl

vertices_over : (n : ℕ) (r : Register) → r.vertices ≤ max_vertices → max_vertices < r.vertices + n → land_vertices n r ≡ refused 22
unfolding land_vertices
vertices_over zero r l h = absurd (omega arith)
vertices_over (suc n) r l h = go (dec_le max_vertices r.vertices) (λ a b. vertices_over n (with_vertex r) a b)
  where
    go : Dec (max_vertices ≤ r.vertices)
        → ((with_vertex r).vertices ≤ max_vertices → max_vertices < (with_vertex r).vertices + n → land_vertices n (with_vertex r) ≡ refused 22)
        → land_vertices (suc n) r ≡ refused 22
    go (yes q) ih = rw (full_refused r q, land_vertices)
    go (no q) ih = rw (vertex_lands r (omega arith), land_vertices) (ih (omega (arith, one_more r)) (omega (arith, one_more r)))

no_vertices : empty.vertices ≡ 0
unfolding empty
no_vertices = refl

grow_over : (n : ℕ) (es : List Edge) → max_vertices < n → grow_from n es ≡ refused 22
unfolding grow_from
grow_over n es h = rw (vertices_over n empty (omega (arith, no_vertices)) (omega (arith, no_vertices)), grow_from)

-- ---- growing again, on the tables and by the definition

abbrev pub growing : Tables → Counts → Landed
growing t c = grow_from c.vertices (stored_edges t c.edges)

abbrev pub regrown : Tables → Counts → LandingIn
regrown t c = regrow_in t.ends t.lengths t.volumes c cleared

-- growing again on cleared tables and by the definition leaves the same register, or is refused alike
pub regrow_agrees : (t : Tables) (c : Counts) → Agrees (growing t c) (regrown t c)
unfolding regrow_in stored_edges up_to
regrow_agrees t c = go (dec_le c.vertices max_vertices)
  where
    go : Dec (c.vertices ≤ max_vertices) → Agrees (growing t c) (regrown t c)
    go (yes q) =
        let n = c.vertices in
        let r = on_vertices n in
        let es = stored_edges t c.edges in
        let a = replay_agrees t c.edges 0 r false (on_reachable n q) (on_warns n) in
        rw (grown_from n es r (land_edges es r) (vertices_grow n q) refl, le-leb n max_vertices q, ← on_tables n, ← on_counts n) a
    go (no q) = rw (grow_over c.vertices (stored_edges t c.edges) (omega arith), lt-leb c.vertices max_vertices (omega arith)) refl
