-- What is stored for a register is held: growing its own vertices and edges from empty leaves it again.
use mathlib.Core.Path.{◌≡◌, refl, sym, ap, ◌∙◌}
use Prim.Native.Nat.{ℕ, zero, suc, ◌+◌, ◌≤◌}
use native.Mathlib.Omega.{arith}
use native.Mathlib.Nat.{add-zero}
use mathlib.Core.Bool.{true}
use mathlib.Core.Option.{some}
use mathlib.Core.List.{List, [], ◌∷◌, ◌++◌}
use lib.ListN.{replicate}
use Rattle.model.specs.Basics.{max_vertices}
use Rattle.model.specs.Graph.{Edge}
use Rattle.model.specs.Register.{Landed, Register, empty, land_edge, land_vertex, landed, refused, with_edge, with_vertex}
use Rattle.model.specs.Tables.{Stored, counts_of, stored_edges, eq_stored, grow_from, held, land_edges, land_vertices, stored_of}
use Rattle.model.specs.Notions.{Admissible}
use Rattle.model.proofs.Registers.Accepted.{accepted, commute, edge_lands, landed_is, vertex_lands}
use Rattle.model.proofs.Registers.Quotes.{not_refused}
use Rattle.theory.proofs.Registers.Lawful.{lawful_more}
use Rattle.model.proofs.Registers.ReadBack.{edges_read}
use Rattle.theory.proofs.Registers.Equality.{eq_stored_refl}

-- a register of n vertices alone
unfoldable pub on_vertices : ℕ → Register
on_vertices n =
    record {
      vertices = n;
      edges = [];
      labels = replicate max_vertices 0;
      lows = replicate max_vertices 0;
      blocks = 0;
      relabellings = 0;
    }

-- growing its own vertices and edges leaves the register again
abbrev pub GrowsAgain : Register → Type 0
GrowsAgain r = land_edges r.edges (on_vertices r.vertices) ≡ landed r

-- ---- landing edges

-- an edge that lands does so with one vertex more as well
pub lands_more : (r : Register) (e : Edge) (r' : Register) → land_edge r e ≡ landed r' → land_edge (with_vertex r) e ≡ landed (with_vertex r')
unfolding with_vertex
lands_more r e r' h =
    let (a, result) = accepted r e r' h in
    edge_lands (with_vertex r) e (record { lawful = lawful_more r.vertices e a.lawful; room = a.room })
    ∙ ap {B = Landed} landed (commute r e ∙ ap with_vertex result)

-- behind an edge that lands the others go on; one that is refused stops them
pub edges_cons : (e : Edge) (es : List Edge) (r r' : Register) → land_edge r e ≡ landed r' → land_edges (e ∷ es) r ≡ land_edges es r'
unfolding land_edges
edges_cons e es r r' h = rw (h, land_edges)

pub edges_stop : (e : Edge) (es : List Edge) (r : Register) (x : ℕ) → land_edge r e ≡ refused x → land_edges (e ∷ es) r ≡ refused x
unfolding land_edges
edges_stop e es r x h = rw (h, land_edges)

-- the first edge is landed if all are
pub record First (e : Edge) (es : List Edge) (r r' : Register) : Type 0 where
  pub between : Register
  pub one : land_edge r e ≡ landed between
  pub others : land_edges es between ≡ landed r'

-- edges that land: the first lands, and then the others
pub edges_first : (e : Edge) (es : List Edge) (r r' : Register) → land_edges (e ∷ es) r ≡ landed r' → First e es r r'
edges_first e es r r' h = go (land_edge r e) refl
  where
    go : (l : Landed) → land_edge r e ≡ l → First e es r r'
    go (landed s) f = record { between = s; one = f; others = sym (edges_cons e es r s f) ∙ h }
    go (refused x) f = absurd (not_refused x r' (sym (edges_stop e es r x f) ∙ h))

edges_snoc : (es : List Edge) (e : Edge) (r s r' : Register) → land_edges es r ≡ landed s → land_edge s e ≡ landed r'
    → land_edges (es ++ (e ∷ [])) r ≡ landed r'
unfolding land_edges
edges_snoc [] e r s r' h k = let i : r ≡ s = landed_is r s h in edges_cons e [] r r' (rw i k)
edges_snoc (d ∷ es) e r s r' h k =
    let f = edges_first d es r s h in
    edges_cons d (es ++ (e ∷ [])) r f.between f.one ∙ edges_snoc es e f.between s r' f.others k

edges_more : (es : List Edge) (r r' : Register) → land_edges es r ≡ landed r' → land_edges es (with_vertex r) ≡ landed (with_vertex r')
unfolding land_edges
edges_more [] r r' h = ap {B = Landed} landed (ap with_vertex (landed_is r r' h))
edges_more (e ∷ es) r r' h =
    let f = edges_first e es r r' h in
    edges_cons e es (with_vertex r) (with_vertex f.between) (lands_more r e f.between f.one)
    ∙ edges_more es f.between r' f.others

-- ---- landing vertices

vertices_cons : (n : ℕ) (r r' : Register) → land_vertex r ≡ landed r' → land_vertices (suc n) r ≡ land_vertices n r'
unfolding land_vertices
vertices_cons n r r' h = rw (h, land_vertices)

vertices_land : (n m : ℕ) → m + n ≤ max_vertices → land_vertices n (on_vertices m) ≡ landed (on_vertices (m + n))
unfolding land_vertices on_vertices with_vertex
vertices_land zero m h = ap {B = Landed} landed (ap on_vertices (sym (add-zero m)))
vertices_land (suc n) m h =
    let e : m + 1 + n ≡ m + suc n = omega arith in
    vertices_cons n (on_vertices m) (on_vertices (m + 1)) (vertex_lands (on_vertices m) (omega arith))
    ∙ vertices_land n (m + 1) (omega arith)
    ∙ ap {B = Landed} landed (ap on_vertices e)

-- the empty register has no vertices
pub empty_is : empty ≡ on_vertices 0
unfolding empty on_vertices
empty_is = refl

-- as many vertices as there is room for can be landed
pub vertices_grow : (n : ℕ) → n ≤ max_vertices → land_vertices n empty ≡ landed (on_vertices n)
vertices_grow n h =
    let e : 0 + n ≡ n = omega arith in
    rw empty_is (vertices_land n 0 (omega arith) ∙ ap {B = Landed} landed (ap on_vertices e))

-- ---- the claim

-- growing is landing the vertices, then the edges
pub grown_from : (n : ℕ) (es : List Edge) (r : Register) (l : Landed) → land_vertices n empty ≡ landed r → land_edges es r ≡ l
    → grow_from n es ≡ l
unfolding grow_from
grown_from n es r l h k = rw (h, grow_from) k

held_from : (s : Stored) (r : Register) → grow_from s.counts.vertices (stored_edges s.tables s.counts.edges) ≡ landed r
    → eq_stored (stored_of r) s ≡ true → held s ≡ some r
unfolding held
held_from s r h k = rw (h, held) (rw k)

-- growing from what is stored for a register leaves it
pub grow_again : (r : Register) → r.vertices ≤ max_vertices → GrowsAgain r
    → grow_from (stored_of r).counts.vertices (stored_edges (stored_of r).tables (stored_of r).counts.edges) ≡ landed r
unfolding stored_of counts_of
grow_again r few g =
    rw (edges_read r)
    (grown_from r.vertices r.edges (on_vertices r.vertices) (landed r) (vertices_grow r.vertices few) g)

-- what is stored for a register that grows again is held
pub is_held : (r : Register) → r.vertices ≤ max_vertices → GrowsAgain r → held (stored_of r) ≡ some r
is_held r few g = held_from (stored_of r) r (grow_again r few g) (eq_stored_refl (stored_of r))

-- ---- every landing keeps it

-- the empty register grows again; so does one with a vertex more, or an edge more
pub empty_regrows : GrowsAgain empty
unfolding empty on_vertices land_edges
empty_regrows = refl

pub vertex_regrows : (r : Register) → GrowsAgain r → GrowsAgain (with_vertex r)
unfolding with_vertex on_vertices
vertex_regrows r g = edges_more r.edges (on_vertices r.vertices) r g

pub edge_regrows : (r : Register) (e : Edge) → GrowsAgain r → Admissible r e → GrowsAgain (with_edge r e)
unfolding with_edge
edge_regrows r e g a = edges_snoc r.edges e (on_vertices r.vertices) r (with_edge r e) g (edge_lands r e a)
