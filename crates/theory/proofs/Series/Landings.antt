-- What a list leaves is a register that landing leaves, by the landings that it counts.
use mathlib.Core.Path.{◌≡◌, refl, ap}
use Prim.Native.Nat.{ℕ, zero, suc, ◌+◌}
use mathlib.Core.List.{List, [], ◌∷◌, ◌++◌, append-nil}
use mathlib.Core.Option.{Option, none, some}
use lib.ListN.{length, drop}
use lib.Seq.{append_snoc}
use Rattle.model.specs.Basics.{max_edges}
use Rattle.model.specs.Graph.{Edge}
use Rattle.model.specs.Register.{Landed, Register, empty, land_edge, land_edge_within, land_vertex, landed, refused}
use Rattle.model.specs.Format.{Record, bad, edge, first_record, grow_list, header_refusal, land_list, land_records, version_of, vertex}
use Rattle.model.specs.Series.{Landing, landed_by, landing_of, landings}
use Rattle.model.specs.Notions.{Reachable, from_empty, history, with_edge_lem, with_vertex_lem}
use Rattle.model.proofs.Registers.Accepted.{within_lands}
use Rattle.theory.proofs.Registers.Reachable.{reachable_empty}

-- these landings leave the register
pub record LeftBy (ls : List Landing) (r : Register) : Type 0 where
  pub reachable : Reachable r
  pub history_is : history reachable ≡ ls

-- ---- one record

-- no landings leave the empty register
pub left_empty : LeftBy [] empty
unfolding history
left_empty = record { reachable = from_empty refl; history_is = refl }

pub left_vertex : {ls : List Landing} {r r' : Register} → LeftBy ls r → land_vertex r ≡ landed r' → LeftBy ls r'
unfolding history
left_vertex b h = record { reachable = with_vertex_lem b.reachable h; history_is = b.history_is }

pub left_edge : {ls : List Landing} {r r' : Register} (e : Edge) → LeftBy ls r → land_edge r e ≡ landed r' → LeftBy (ls ++ (landing_of r e r' ∷ [])) r'
unfolding history
left_edge {ls} {r} {r'} e b h =
    record { reachable = with_edge_lem e b.reachable h; history_is = ap (λ (ks : List Landing). ks ++ (landing_of r e r' ∷ [])) b.history_is }

-- ---- a list

-- no landing more leaves the same register
pub left_same : {ls : List Landing} {r : Register} → LeftBy ls r → LeftBy (ls ++ []) r
left_same b = rw append-nil b

left_records : (limit version n k : ℕ) (r : Register) (bs : List ℕ) (ls : List Landing) → LeftBy ls r
    → LeftBy (ls ++ landings limit version n r bs) (land_records limit version n k r bs).register
unfolding land_records landings
left_records limit version zero k r bs ls b = left_same b
left_records limit version (suc n) k r [] ls b = left_same b
left_records limit version (suc n) k r (kind ∷ bs) ls b =
    go (first_record version kind bs) refl (λ r' rest ks b'. left_records limit version n (k + 1) r' rest ks b')
  where
    Goal : Type 0
    Goal = LeftBy (ls ++ landings limit version (suc n) r (kind ∷ bs)) (land_records limit version (suc n) k r (kind ∷ bs)).register

    Rest : Type 0
    Rest = (r' : Register) (rest : List ℕ) (ks : List Landing) → LeftBy ks r'
        → LeftBy (ks ++ landings limit version n r' rest) (land_records limit version n (k + 1) r' rest).register

    on_vertex : (rest : List ℕ) → first_record version kind bs ≡ vertex rest → (l : Landed) → land_vertex r ≡ l → Rest → Goal
    on_vertex rest e (landed r') f ih = rw (e, f, land_records, landings) (ih r' rest ls (left_vertex b f))
    on_vertex rest e (refused x) f ih = rw (e, f, land_records, landings) (left_same b)

    on_edge : (c : Edge) (rest : List ℕ) → first_record version kind bs ≡ edge c rest → (l : Landed) → land_edge_within limit r c ≡ l → Rest → Goal
    on_edge c rest e (landed r') f ih =
        rw (e, f, land_records, landings, ← append_snoc ls (landing_of r c r') (landings limit version n r' rest))
        (ih r' rest (ls ++ (landing_of r c r' ∷ [])) (left_edge c b (within_lands limit r c r' f)))
    on_edge c rest e (refused x) f ih = rw (e, f, land_records, landings) (left_same b)

    go : (d : Record) → first_record version kind bs ≡ d → Rest → Goal
    go (vertex rest) e ih = on_vertex rest e (land_vertex r) refl ih
    go (edge c rest) e ih = on_edge c rest e (land_edge_within limit r c) refl ih
    go (bad x) e ih = rw (e, land_records, landings) (left_same b)

-- a list, stopped or not, leaves its register by the landings before it and its own
pub left_list : (limit : ℕ) (r : Register) (bs : List ℕ) (ls : List Landing) → LeftBy ls r → LeftBy (ls ++ landed_by limit r bs) (land_list limit r bs).register
unfolding land_list landed_by
left_list limit r bs ls b = go (header_refusal bs) refl
  where
    go : (o : Option ℕ) → header_refusal bs ≡ o → LeftBy (ls ++ landed_by limit r bs) (land_list limit r bs).register
    go (some x) e = rw (e, land_list, landed_by) (left_same b)
    go none e = rw (e, land_list, landed_by) (left_records limit (version_of bs) (length bs) 0 r (drop 5 bs) ls b)

-- ---- so these are registers that landing leaves

-- what a list leaves, stopped or not
pub reachable_list : (limit : ℕ) (r : Register) (bs : List ℕ) → Reachable r → Reachable (land_list limit r bs).register
reachable_list limit r bs k = (left_list limit r bs (history k) (record { reachable = k; history_is = refl })).reachable

-- growing from a list leaves a register that landing leaves
pub reachable_grown : (bs : List ℕ) → Reachable (grow_list bs).register
unfolding grow_list
reachable_grown bs = reachable_list max_edges empty bs reachable_empty
