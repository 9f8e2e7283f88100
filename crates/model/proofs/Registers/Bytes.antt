-- Numbers read back from their bytes; and how long a list can be that is read whole: 5 bytes, one for each vertex and at most 13 for each edge.
use Rattle.std.specs.Prelude.{if◌then◌else◌}
use mathlib.Core.Path.{◌≡◌, refl, subst}
use mathlib.Core.Logic.{◌≢◌}
use Prim.Native.Nat.{ℕ, zero, suc, ◌+◌, ◌*◌, ◌/◌, ◌%◌, ◌≤◌, ◌<◌}
use native.Mathlib.Omega.{arith}
use mathlib.Core.Bool.{Bool, true, false, not}
use mathlib.Core.List.{List, [], ◌∷◌, ◌++◌}
use mathlib.Core.Option.{Option, none, some}
use lib.ListN.{length, drop, length-drop, length-append}
use lib.Dec.{eqb, ltb}
use Rattle.model.specs.Basics.{bytes2, bytes4, max_edges, max_vertices}
use Rattle.model.specs.Graph.{Edge}
use Rattle.model.specs.Register.{Landed, Register, empty, land_edge_within, land_vertex, landed, refused, with_edge, with_vertex}
use Rattle.model.specs.Format.{whole, stopped, Record, vertex, edge, bad, byte_at, u16_at, u32_at, volume_in, edge_body, first_record, land_records, header_refusal, version_of, land_list, grow_list}
use Rattle.model.proofs.Registers.Accepted.{accepted_within, added}

-- ---- numbers and the bytes that they are written as

-- a number read from its two bytes is the number
pub two_back : (n : ℕ) → n < 65536 → u16_at (bytes2 n) 0 ≡ n
unfolding u16_at byte_at bytes2
two_back n h = omega arith

-- and from its four
pub four_back : (n : ℕ) → n < 4294967296 → u32_at (bytes4 n) 0 ≡ n
unfolding u32_at u16_at byte_at bytes4
four_back n h =
    let a : n ≡ n % 256 + 256 * (n / 256) = omega arith in
    let b : n / 256 ≡ n / 256 % 256 + 256 * (n / 65536) = omega arith in
    let c : n / 65536 ≡ n / 65536 % 256 + 256 * (n / 16777216) = omega arith in
    let d : n / 16777216 % 256 ≡ n / 16777216 = omega arith in
    omega (arith, a, b, c, d)

-- ---- how long a list can be

record Few (r : Register) : Type 0 where
  pub vertices_few : r.vertices ≤ max_vertices
  pub edges_few : length r.edges ≤ max_edges

-- the bytes of so many vertices and edges, 1 and at most 13 each
abbrev spent : Register → ℕ
spent r = r.vertices + 13 * length r.edges

body_most : (version : ℕ) → edge_body version ≤ 12
unfolding edge_body
body_most version = go (eqb version 2)
  where
    go : (t : Bool) → (if t then 12 else 8) ≤ 12
    go true = omega arith
    go false = omega arith

-- the bytes behind a record's kind, and those behind the record
abbrev Shorter : Record → ℕ → Type 0
Shorter (vertex rest) n = n ≡ length rest
Shorter (edge e rest) n = (length rest ≤ n) × (n ≤ 12 + length rest)
Shorter (bad x) n = Unit {0}

record_short : (version kind : ℕ) (bs : List ℕ) → Shorter (first_record version kind bs) (length bs)
unfolding first_record
record_short version kind bs = go (eqb kind 0x46) (not (eqb kind 0x50)) (ltb (length bs) (edge_body version)) refl
  where
    e : Edge
    e = record { first = u16_at bs 0; second = u16_at bs 2; len = u32_at bs 4; volume = volume_in version bs }

    go : (s t u : Bool) → ltb (length bs) (edge_body version) ≡ u
        → Shorter (if s then vertex bs else if t then bad 4 else if u then bad 3 else edge e (drop (edge_body version) bs)) (length bs)
    go true t u q = refl
    go false true u q = tt
    go false false true q = tt
    go false false false q =
        let d = length-drop (edge_body version) bs in
        (omega (arith, d), omega (arith, d, body_most version))

few_vertex : (r r' : Register) → Few r → land_vertex r ≡ landed r' → Few r' × (spent r' ≡ spent r + 1)
unfolding with_vertex
few_vertex r r' f h =
    let a = added r r' h in
    subst (λ (s : Register). Few s × (spent s ≡ spent r + 1)) a.1 (record { vertices_few = omega (arith, a.0); edges_few = f.edges_few }, omega arith)

few_edge : (limit : ℕ) (r : Register) (e : Edge) (r' : Register) → Few r → land_edge_within limit r e ≡ landed r' → Few r' × (spent r' ≡ spent r + 13)
unfolding with_edge
few_edge limit r e r' f h =
    let a = accepted_within limit r e r' h in
    let n : length (r.edges ++ (e ∷ [])) ≡ length r.edges + 1 = length-append r.edges (e ∷ []) in
    subst (λ (s : Register). Few s × (spent s ≡ spent r + 13)) a.1 (record { vertices_few = f.vertices_few; edges_few = omega (arith, n, a.0.0.room) }, omega (arith, n))

not_whole : (k x : ℕ) → stopped k x ≢ whole
not_whole k x e = let z : ◌≡◌ {A = ℕ} 0 1 = cc in omega arith

records_short : (limit version n k : ℕ) (r : Register) (bs : List ℕ) → Few r → length bs ≤ n → (land_records limit version n k r bs).stop ≡ whole
    → length bs + spent r ≤ max_vertices + 13 * max_edges
unfolding land_records
records_short limit version zero k r bs f l w = omega (arith, f.vertices_few, f.edges_few)
records_short limit version (suc n) k r [] f l w = omega (arith, f.vertices_few, f.edges_few)
records_short limit version (suc n) k r (kind ∷ bs) f l w =
    go (first_record version kind bs) refl (record_short version kind bs) (λ r' rest g m v. records_short limit version n (k + 1) r' rest g m v)
  where
    Goal : Type 0
    Goal = length (kind ∷ bs) + spent r ≤ max_vertices + 13 * max_edges

    Rest : Type 0
    Rest = (r' : Register) (rest : List ℕ) → Few r' → length rest ≤ n → (land_records limit version n (k + 1) r' rest).stop ≡ whole
        → length rest + spent r' ≤ max_vertices + 13 * max_edges

    on_vertex : (rest : List ℕ) → first_record version kind bs ≡ vertex rest → length bs ≡ length rest → (d : Landed) → land_vertex r ≡ d → Rest → Goal
    on_vertex rest e s (landed r') h ih =
        let g = few_vertex r r' f h in
        omega (arith, s, g.1, ih r' rest g.0 (omega (arith, s)) (rw (e, h, land_records) at w))
    on_vertex rest e s (refused x) h ih = absurd (not_whole k x (rw (e, h, land_records) at w))

    on_edge : (c : Edge) (rest : List ℕ) → first_record version kind bs ≡ edge c rest → (length rest ≤ length bs) × (length bs ≤ 12 + length rest)
        → (d : Landed) → land_edge_within limit r c ≡ d → Rest → Goal
    on_edge c rest e s (landed r') h ih =
        let g = few_edge limit r c r' f h in
        omega (arith, s.1, g.1, ih r' rest g.0 (omega (arith, s.0)) (rw (e, h, land_records) at w))
    on_edge c rest e s (refused x) h ih = absurd (not_whole k x (rw (e, h, land_records) at w))

    go : (d : Record) → first_record version kind bs ≡ d → Shorter d (length bs) → Rest → Goal
    go (vertex rest) e s ih = on_vertex rest e s (land_vertex r) refl ih
    go (edge c rest) e s ih = on_edge c rest e s (land_edge_within limit r c) refl ih
    go (bad x) e s ih = absurd (not_whole k x (rw (e, land_records) at w))

-- a list that is read whole has no more bytes than a header and as many vertices and edges as there can be
pub whole_short : (bs : List ℕ) → (grow_list bs).stop ≡ whole → length bs ≤ 5 + (max_vertices + 13 * max_edges)
unfolding grow_list land_list empty
whole_short bs w = go (header_refusal bs) refl
  where
    go : (o : Option ℕ) → header_refusal bs ≡ o → length bs ≤ 5 + (max_vertices + 13 * max_edges)
    go (some x) e = absurd (not_whole 0 x (rw (e, land_list) at w))
    go none e =
        let d = length-drop 5 bs in
        let s = records_short max_edges (version_of bs) (length bs) 0 empty (drop 5 bs) (record { vertices_few = omega arith; edges_few = omega arith }) (omega (arith, d)) (rw (e, land_list) at w) in
        omega (arith, d, s)
