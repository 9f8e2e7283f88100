-- Every register that landing leaves has the invariants, and its contents follow from its edges and its number of vertices.
use mathlib.Core.Path.{◌≡◌, refl, sym, ap, ap₂, ◌∙◌, subst}
use Prim.Native.Nat.{ℕ, ◌<◌}
use native.Mathlib.Omega.{arith}
use mathlib.Core.List.{List}
use Rattle.model.specs.Basics.{max_vertices}
use Rattle.model.specs.Graph.{Edge}
use Rattle.model.specs.Register.{Register, empty, land_edge, land_vertex, landed, with_edge, with_vertex}
use Rattle.model.specs.Tables.{land_edges}
use Rattle.model.specs.Notions.{Admissible, Reachable, from_empty, with_edge_lem, with_vertex_lem}
use Rattle.model.proofs.Registers.Accepted.{accepted, added, landed_is, vertex_lands}
use Rattle.theory.proofs.Registers.Held.{lands_more, on_vertices}
use Rattle.theory.proofs.Registers.Founded.{Founded}
use Rattle.theory.proofs.Registers.Kept.{Kept, kept_empty, kept_vertex, kept_edge}

-- ---- which registers these are

-- the empty register is one that landing leaves
pub reachable_empty : Reachable empty
reachable_empty = from_empty refl

-- ---- what every landing keeps holds of each of them

-- what the empty register has and every landing keeps, each of them has
pub reachable_keeps : (P : Register → Type 0) → P empty → ((r : Register) → P r → r.vertices < max_vertices → P (with_vertex r))
    → ((r : Register) (e : Edge) → P r → Admissible r e → P (with_edge r e)) → (r : Register) → Reachable r → P r
reachable_keeps P z v e r (from_empty q) = subst P (sym q) z
reachable_keeps P z v e r (with_vertex_lem {r = s} k h) = let (room, is) = added s r h in subst P is (v s (reachable_keeps P z v e s k) room)
reachable_keeps P z v e r (with_edge_lem {r = s} c k h) = let (a, is) = accepted s c r h in subst P is (e s c (reachable_keeps P z v e s k) a)

-- every register that landing leaves has the invariant of landings
pub kept : (r : Register) → Reachable r → Kept r
kept r k = reachable_keeps Kept kept_empty kept_vertex kept_edge r k

-- every register that landing leaves has lawful edges, no more than can be
pub founded : (r : Register) → Reachable r → Founded r
founded r k = (kept r k).founded

-- ---- its contents follow from its edges and its number of vertices

-- registers with the same edges and as many vertices are equal
pub same_contents : (r s : Register) → Reachable r → Reachable s → r.vertices ≡ s.vertices → r.edges ≡ s.edges → r ≡ s
same_contents r s k l v e =
    landed_is r s (sym (kept r k).regrows ∙ ap₂ (λ (es : List Edge) (n : ℕ). land_edges es (on_vertices n)) e v ∙ (kept s l).regrows)

-- ---- a vertex and an edge land in either order, with the same register

-- an edge leaves the number of vertices
pub with_edge_vertices : (r : Register) (e : Edge) → (with_edge r e).vertices ≡ r.vertices
unfolding with_edge
with_edge_vertices r e = refl

-- where a vertex and an edge both land, they land in either order
pub either_order : (r : Register) (e : Edge) (s t : Register) → land_vertex r ≡ landed s → land_edge r e ≡ landed t
    → (land_edge s e ≡ landed (with_vertex t)) × (land_vertex t ≡ landed (with_vertex t))
either_order r e s t h k =
    let (room, is) = added r s h in
    let n : t.vertices ≡ r.vertices = ap (λ (u : Register). u.vertices) (sym (accepted r e t k).1) ∙ with_edge_vertices r e in (
      subst (λ (u : Register). land_edge u e ≡ landed (with_vertex t)) is (lands_more r e t k),
      vertex_lands t (omega (arith, n, room)),
    )
