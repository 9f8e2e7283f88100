-- What is held is what is stored for a register that landing leaves, and for no other.
use Rattle.std.specs.Prelude.{if◌then◌else◌}
use mathlib.Core.Path.{◌≡◌, refl, sym, ap, ◌∙◌, subst}
use Prim.Native.Nat.{ℕ, zero, suc}
use mathlib.Core.Bool.{Bool, true, false}
use mathlib.Core.Option.{none, some, none-ne-some, some-injective}
use mathlib.Core.List.{List, [], ◌∷◌}
use Rattle.model.specs.Graph.{Edge}
use Rattle.model.specs.Register.{Landed, Register, empty, land_vertex, landed, refused}
use Rattle.model.specs.Tables.{Stored, counts_of, stored_edges, eq_stored, grow_from, held, land_edges, land_vertices, stored_of, tables_of}
use Rattle.model.specs.Notions.{HeldOf, Reachable, with_edge_lem, with_vertex_lem}
use Rattle.model.proofs.Registers.Accepted.{landed_is}
use Rattle.model.proofs.Registers.Quotes.{not_refused}
use Rattle.theory.proofs.Registers.Held.{edges_first}
use Rattle.theory.proofs.Registers.Equality.{eq_stored_true}
use Rattle.theory.proofs.Registers.Reachable.{reachable_empty}

-- ---- what regrowing leaves is reachable

-- landing vertices leaves a register that landing leaves
pub vertices_reach : (n : ℕ) (r r' : Register) → Reachable r → land_vertices n r ≡ landed r' → Reachable r'
unfolding land_vertices
vertices_reach zero r r' k e = subst Reachable (landed_is r r' e) k
vertices_reach (suc n) r r' k e = go (land_vertex r) refl (λ s h f. vertices_reach n s r' h f)
  where
    go : (l : Landed) → land_vertex r ≡ l → ((s : Register) → Reachable s → land_vertices n s ≡ landed r' → Reachable r') → Reachable r'
    go (landed s) q ih = ih s (with_vertex_lem k q) (rw (q, land_vertices) at e)
    go (refused x) q ih = absurd (not_refused x r' (rw (q, land_vertices) at e))

edges_reach : (es : List Edge) (r r' : Register) → Reachable r → land_edges es r ≡ landed r' → Reachable r'
unfolding land_edges
edges_reach [] r r' k e = subst Reachable (landed_is r r' e) k
edges_reach (d ∷ es) r r' k e = let f = edges_first d es r r' e in edges_reach es f.between r' (with_edge_lem d k f.one) f.others

-- growing from vertices and edges leaves a register that landing leaves
pub grow_reaches : (n : ℕ) (es : List Edge) (r : Register) → grow_from n es ≡ landed r → Reachable r
unfolding grow_from
grow_reaches n es r e = go (land_vertices n empty) refl
  where
    go : (l : Landed) → land_vertices n empty ≡ l → Reachable r
    go (landed s) q = edges_reach es s r (vertices_reach n empty s reachable_empty q) (rw (q, grow_from) at e)
    go (refused x) q = absurd (not_refused x r (rw (q, grow_from) at e))

-- ---- so what is held is

-- what is held is stored for a register that landing leaves
pub only_held : (s : Stored) (r : Register) → held s ≡ some r → HeldOf s r
unfolding held
only_held s r e = go (grow_from n es) refl
  where
    n : ℕ
    n = s.counts.vertices

    es : List Edge
    es = stored_edges s.tables s.counts.edges

    same : (q : Register) → grow_from n es ≡ landed q → (b : Bool) → eq_stored (stored_of q) s ≡ b → (if b then some q else none) ≡ some r → HeldOf s r
    same q f true t h =
        let i : q ≡ r = some-injective q r h in
        record { reachable = subst Reachable i (grow_reaches n es q f); stored_is = sym (eq_stored_true (stored_of q) s t) ∙ ap stored_of i }
    same q f false t h = absurd (none-ne-some r h)

    go : (l : Landed) → grow_from n es ≡ l → HeldOf s r
    go (landed q) f = same q f (eq_stored (stored_of q) s) refl (rw (f, held) at e)
    go (refused x) f = absurd (none-ne-some r (rw (f, held) at e))

-- its tables and its counts are those that are held
pub held_tables : {s : Stored} {r : Register} → HeldOf s r → tables_of r ≡ s.tables
unfolding stored_of
held_tables h = ap (λ (s : Stored). s.tables) (sym h.stored_is)

pub held_counts : {s : Stored} {r : Register} → HeldOf s r → counts_of r ≡ s.counts
unfolding stored_of
held_counts h = ap (λ (s : Stored). s.counts) (sym h.stored_is)
