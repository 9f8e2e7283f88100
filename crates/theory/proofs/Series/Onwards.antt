-- A list leaves the vertices and edges that were there, and lands more behind them; so does a commit.
use mathlib.Core.Path.{◌≡◌, refl, sym, ap, ◌∙◌, subst}
use Prim.Native.Nat.{ℕ, zero, suc, ◌+◌}
use native.Mathlib.Omega.{arith}
use mathlib.Core.List.{List, [], ◌∷◌, ◌++◌, append_assoc, append-nil}
use mathlib.Core.Option.{Option, none, some}
use lib.ListN.{length, drop}
use Rattle.model.specs.Graph.{Edge}
use Rattle.model.specs.Register.{Landed, Quote, Register, commit, land_edge_within, land_vertex, landed, refused, with_edge, with_vertex}
use Rattle.model.specs.Format.{Record, bad, edge, first_record, header_refusal, land_list, land_records, version_of, vertex}
use Rattle.model.specs.Notions.{LandedSince}
use Rattle.model.proofs.Registers.Accepted.{accepted_within, added}
use Rattle.model.proofs.Registers.Quotes.{commit_lands}

-- ---- one record

-- since a register itself nothing has landed
pub since_none : (r : Register) → LandedSince r r
since_none r = record { vertices_stay = omega arith; later = []; edges_are = sym (append-nil r.edges) }

-- what landed since, and then more, landed since the first
pub since_both : {q r s : Register} → LandedSince q r → LandedSince r s → LandedSince q s
since_both {q} {r} {s} a b =
    record {
      vertices_stay = omega (arith, a.vertices_stay, b.vertices_stay);
      later = a.later ++ b.later;
      edges_are = b.edges_are ∙ ap (λ (es : List Edge). es ++ b.later) a.edges_are ∙ append_assoc q.edges a.later b.later;
    }

with_vertex_since : (r : Register) → LandedSince r (with_vertex r)
unfolding with_vertex
with_vertex_since r = record { vertices_stay = omega arith; later = []; edges_are = sym (append-nil r.edges) }

with_edge_since : (r : Register) (e : Edge) → LandedSince r (with_edge r e)
unfolding with_edge
with_edge_since r e = record { vertices_stay = omega arith; later = e ∷ []; edges_are = refl }

vertex_since : (r r' : Register) → land_vertex r ≡ landed r' → LandedSince r r'
vertex_since r r' h = subst (LandedSince r) (added r r' h).1 (with_vertex_since r)

edge_since : (limit : ℕ) (r : Register) (e : Edge) (r' : Register) → land_edge_within limit r e ≡ landed r' → LandedSince r r'
edge_since limit r e r' h = subst (LandedSince r) (accepted_within limit r e r' h).1 (with_edge_since r e)

-- ---- a list

since_records : (limit version n k : ℕ) (r : Register) (bs : List ℕ) → LandedSince r (land_records limit version n k r bs).register
unfolding land_records
since_records limit version zero k r bs = since_none r
since_records limit version (suc n) k r [] = since_none r
since_records limit version (suc n) k r (kind ∷ bs) = go (first_record version kind bs) refl (λ r' rest. since_records limit version n (k + 1) r' rest)
  where
    Goal : Type 0
    Goal = LandedSince r (land_records limit version (suc n) k r (kind ∷ bs)).register

    Rest : Type 0
    Rest = (r' : Register) (rest : List ℕ) → LandedSince r' (land_records limit version n (k + 1) r' rest).register

    on_vertex : (rest : List ℕ) → first_record version kind bs ≡ vertex rest → (l : Landed) → land_vertex r ≡ l → Rest → Goal
    on_vertex rest e (landed r') f ih = rw (e, f, land_records) (since_both (vertex_since r r' f) (ih r' rest))
    on_vertex rest e (refused x) f ih = rw (e, f, land_records) (since_none r)

    on_edge : (c : Edge) (rest : List ℕ) → first_record version kind bs ≡ edge c rest → (l : Landed) → land_edge_within limit r c ≡ l → Rest → Goal
    on_edge c rest e (landed r') f ih = rw (e, f, land_records) (since_both (edge_since limit r c r' f) (ih r' rest))
    on_edge c rest e (refused x) f ih = rw (e, f, land_records) (since_none r)

    go : (d : Record) → first_record version kind bs ≡ d → Rest → Goal
    go (vertex rest) e ih = on_vertex rest e (land_vertex r) refl ih
    go (edge c rest) e ih = on_edge c rest e (land_edge_within limit r c) refl ih
    go (bad x) e ih = rw (e, land_records) (since_none r)

-- stopped or not, it leaves what was there, with more behind it
pub since_list : (limit : ℕ) (r : Register) (bs : List ℕ) → LandedSince r (land_list limit r bs).register
unfolding land_list
since_list limit r bs = go (header_refusal bs) refl
  where
    go : (o : Option ℕ) → header_refusal bs ≡ o → LandedSince r (land_list limit r bs).register
    go (some x) e = rw (e, land_list) (since_none r)
    go none e = rw (e, land_list) (since_records limit (version_of bs) (length bs) 0 r (drop 5 bs))

-- ---- a commit that lands

-- so does a commit
pub since_commit : (limit : ℕ) (q : Quote) (r r' : Register) → commit limit r q ≡ landed r' → LandedSince r r'
since_commit limit q r r' h = edge_since limit r q.asked r' (commit_lands limit r q r' h).1
