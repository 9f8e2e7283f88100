-- The list that is written of a register (document 02, S-1): growing from it leaves the register again, and how long it is.
use mathlib.Core.Path.{◌≡◌, refl, sym, ap, ap₂, ◌∙◌}
use Prim.Native.Nat.{ℕ, zero, suc, ◌+◌, ◌*◌, ◌≤◌}
use native.Mathlib.Omega.{arith}
use mathlib.Core.List.{List, [], ◌∷◌, ◌++◌}
use mathlib.Core.Option.{none}
use lib.ListN.{length, drop, replicate, length-append, length-replicate}
use borrow.Author.Tests.{le-leb, le-ltb}
use Rattle.model.specs.Basics.{bytes2, bytes4, max_edges, max_vertices}
use Rattle.model.specs.Graph.{Edge}
use Rattle.model.specs.Register.{Register, empty, land_edge, land_vertex, landed, with_vertex}
use Rattle.model.specs.Format.{Read, byte_at, edge, edge_bytes, edge_records, first_record, grow_list, has_mark, header, version_of, volume_in, edge_body, header_refusal, land_list, land_records, list_of, u16_at, u32_at, whole, written}
use Rattle.model.specs.Tables.{land_edges}
use Rattle.model.specs.Notions.{Lawful, Reachable}
use Rattle.model.proofs.Registers.Accepted.{accepted, landed_is, vertex_lands}
use Rattle.model.proofs.Registers.Bytes.{four_back, two_back}
use Rattle.theory.proofs.Registers.Held.{edges_first, empty_is, on_vertices}
use Rattle.theory.proofs.Registers.Reachable.{kept, with_edge_vertices}

-- ---- the record of an edge

-- what stands behind its first byte, with the bytes behind it
unfoldable body : Edge → List ℕ → List ℕ
body e bs = bytes2 e.first ++ (bytes2 e.second ++ (bytes4 e.len ++ (bytes4 e.volume ++ bs)))

records_cons : (e : Edge) (es : List Edge) → edge_records (e ∷ es) ≡ 0x50 ∷ body e (edge_records es)
unfolding edge_records edge_bytes body bytes2 bytes4
records_cons e es = refl

body_long : (e : Edge) (bs : List ℕ) → length (body e bs) ≡ 12 + length bs
unfolding body bytes2 bytes4
body_long e bs = omega arith

body_rest : (e : Edge) (bs : List ℕ) → drop 12 (body e bs) ≡ bs
unfolding body bytes2 bytes4
body_rest e bs = refl

numbers_back : (n : ℕ) (e : Edge) (bs : List ℕ) → n ≤ max_vertices → Lawful n e
    → edge (record { first = u16_at (body e bs) 0; second = u16_at (body e bs) 2; len = u32_at (body e bs) 4; volume = u32_at (body e bs) 8 }) bs ≡ edge e bs
unfolding body bytes2 bytes4 u16_at u32_at byte_at
numbers_back n e bs few l =
    let a : u16_at (body e bs) 0 ≡ e.first = two_back e.first (omega arith) in
    let b : u16_at (body e bs) 2 ≡ e.second = two_back e.second (omega arith) in
    let c : u32_at (body e bs) 4 ≡ e.len = four_back e.len (omega arith) in
    let d : u32_at (body e bs) 8 ≡ e.volume = four_back e.volume (omega arith) in
    λ i. edge (record { first = a i; second = b i; len = c i; volume = d i }) bs

read_edge : (n : ℕ) (e : Edge) (bs : List ℕ) → n ≤ max_vertices → Lawful n e → first_record 2 0x50 (body e bs) ≡ edge e bs
unfolding first_record edge_body volume_in
read_edge n e bs few l =
    let long : 12 ≤ length (body e bs) = omega (arith, body_long e bs) in
    rw (le-ltb (length (body e bs)) 12 long, body_rest e bs) (numbers_back n e bs few l)

-- ---- reading vertices, then edges

step_vertex : (n k : ℕ) (r s : Register) (bs : List ℕ) → land_vertex r ≡ landed s
    → land_records max_edges 2 (suc n) k r (0x46 ∷ bs) ≡ land_records max_edges 2 n (k + 1) s bs
unfolding land_records first_record
step_vertex n k r s bs h = rw (land_records, h)

step_edge : (n k : ℕ) (r s : Register) (e : Edge) (bs rest : List ℕ) → first_record 2 0x50 bs ≡ edge e rest → land_edge r e ≡ landed s
    → land_records max_edges 2 (suc n) k r (0x50 ∷ bs) ≡ land_records max_edges 2 n (k + 1) s rest
unfolding land_records land_edge
step_edge n k r s e bs rest q h = rw (land_records, q, h)

read_vertices : (n m fuel k : ℕ) (bs : List ℕ) → m + n ≤ max_vertices
    → land_records max_edges 2 (n + fuel) k (on_vertices m) (replicate n 0x46 ++ bs) ≡ land_records max_edges 2 fuel (k + n) (on_vertices (m + n)) bs
unfolding on_vertices with_vertex
read_vertices zero m fuel k bs h =
    let a : 0 + fuel ≡ fuel = omega arith in
    let b : k ≡ k + 0 = omega arith in
    let c : m ≡ m + 0 = omega arith in
    λ i. land_records max_edges 2 (a i) (b i) (on_vertices (c i)) bs
read_vertices (suc n) m fuel k bs h =
    let a : suc n + fuel ≡ suc (n + fuel) = omega arith in
    let b : k + 1 + n ≡ k + suc n = omega arith in
    let c : m + 1 + n ≡ m + suc n = omega arith in
    ap (λ (f : ℕ). land_records max_edges 2 f k (on_vertices m) (replicate (suc n) 0x46 ++ bs)) a
    ∙ step_vertex (n + fuel) k (on_vertices m) (on_vertices (m + 1)) (replicate n 0x46 ++ bs) (vertex_lands (on_vertices m) (omega arith))
    ∙ read_vertices n (m + 1) fuel (k + 1) bs (omega arith)
    ∙ (λ i. land_records max_edges 2 fuel (b i) (on_vertices (c i)) bs)

-- a list read to its end
abbrev Whole : Register → Read
Whole r = record { register = r; stop = whole }

records_end : (fuel k : ℕ) (r : Register) → land_records max_edges 2 fuel k r (edge_records []) ≡ Whole r
unfolding land_records edge_records
records_end zero k r = refl
records_end (suc fuel) k r = refl

none_left : (r s : Register) → land_edges [] r ≡ landed s → r ≡ s
unfolding land_edges
none_left r s h = landed_is r s h

read_edges : (es : List Edge) (fuel k : ℕ) (r s : Register) → r.vertices ≤ max_vertices → length es ≤ fuel → land_edges es r ≡ landed s
    → land_records max_edges 2 fuel k r (edge_records es) ≡ Whole s
read_edges [] fuel k r s few l h = records_end fuel k r ∙ ap Whole (none_left r s h)
read_edges (e ∷ es) zero k r s few l h = absurd (omega arith)
read_edges (e ∷ es) (suc fuel) k r s few l h =
    let f = edges_first e es r s h in
    let (a, is) = accepted r e f.between f.one in
    let n : f.between.vertices ≡ r.vertices = ap (λ (u : Register). u.vertices) (sym is) ∙ with_edge_vertices r e in
    ap (λ (bs : List ℕ). land_records max_edges 2 (suc fuel) k r bs) (records_cons e es)
    ∙ step_edge fuel k r f.between e (body e (edge_records es)) (edge_records es) (read_edge r.vertices e (edge_records es) few a.lawful) f.one
    ∙ read_edges es fuel (k + 1) f.between s (omega (arith, n)) (omega arith) f.others

-- ---- how long it is

pub records_long : (es : List Edge) → length (edge_records es) ≡ 13 * length es
unfolding edge_records
records_long [] = refl
records_long (e ∷ es) = ap length (records_cons e es) ∙ omega (arith, body_long e (edge_records es), records_long es)

behind : (n : ℕ) (es : List Edge) → length (replicate n 0x46 ++ edge_records es) ≡ n + 13 * length es
behind n es =
    omega (arith, length-append (replicate n 0x46) (edge_records es), length-replicate {A = ℕ} n 0x46, records_long es)

header_long : (bs : List ℕ) → length (header ++ bs) ≡ 5 + length bs
unfolding header bytes2
header_long bs = omega arith

-- a list of n vertices and some edges has 5 + n + 13 bytes for each edge
pub list_long : (n : ℕ) (es : List Edge) → length (list_of n es) ≡ 5 + n + 13 * length es
unfolding list_of
list_long n es = omega (arith, header_long (replicate n 0x46 ++ edge_records es), behind n es)

-- the list that is written of a register has as many
pub written_length : (r : Register) → length (written r) ≡ 5 + r.vertices + 13 * length r.edges
unfolding written
written_length r = list_long r.vertices r.edges

-- ---- what it follows from

-- registers with the same edges and as many vertices have one list
pub written_same : (r s : Register) → r.vertices ≡ s.vertices → r.edges ≡ s.edges → written r ≡ written s
unfolding written
written_same r s v e = ap₂ list_of v e

-- ---- the whole list

header_good : (bs : List ℕ) → header_refusal (header ++ bs) ≡ none
unfolding header_refusal has_mark version_of header bytes2 u16_at byte_at
header_good bs =
    let n = suc (suc (suc (suc (suc (length bs))))) in
    rw (le-leb 3 n (omega arith), le-ltb n 5 (omega arith))

header_version : (bs : List ℕ) → version_of (header ++ bs) ≡ 2
unfolding version_of header bytes2 u16_at byte_at
header_version bs = refl

header_rest : (bs : List ℕ) → drop 5 (header ++ bs) ≡ bs
unfolding header bytes2
header_rest bs = refl

read_list : (bs : List ℕ) → header_refusal bs ≡ none → grow_list bs ≡ land_records max_edges (version_of bs) (length bs) 0 empty (drop 5 bs)
unfolding grow_list land_list
read_list bs h = rw (land_list, h)

few_of : (n : ℕ) → n ≤ max_vertices → (on_vertices n).vertices ≤ max_vertices
unfolding on_vertices
few_of n h = h

-- growing from the list that is written leaves the register
pub written_grows : (r : Register) → Reachable r → grow_list (written r) ≡ record { register = r; stop = whole }
unfolding written list_of
written_grows r k =
    read_list (header ++ rest) (header_good rest)
    ∙ (λ i. land_records max_edges (header_version rest i) (fuel_is i) 0 (empty_is i) (header_rest rest i))
    ∙ read_vertices n 0 fuel 0 (edge_records es) (omega (arith, few))
    ∙ read_edges es fuel (0 + n) (on_vertices (0 + n)) r few_on (omega arith) again
  where
    n : ℕ
    n = r.vertices

    es : List Edge
    es = r.edges

    rest : List ℕ
    rest = replicate n 0x46 ++ edge_records es

    fuel : ℕ
    fuel = 5 + 13 * length es

    fuel_is : length (header ++ rest) ≡ n + fuel
    fuel_is = omega (arith, header_long rest, behind n es)

    few : n ≤ max_vertices
    few = (kept r k).founded.few

    zero_n : n ≡ 0 + n
    zero_n = omega arith

    few_on : (on_vertices (0 + n)).vertices ≤ max_vertices
    few_on = rw (← zero_n) (few_of n few)

    again : land_edges es (on_vertices (0 + n)) ≡ landed r
    again = rw (← zero_n) (kept r k).regrows
