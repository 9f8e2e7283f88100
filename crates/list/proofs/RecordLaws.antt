-- The ways out of reading a record at index i of a list of this version.
use mathlib.Core.Path.{◌≡◌, refl}
use mathlib.Core.Logic.{◌≢◌}
use Prim.Native.Nat.{ℕ, suc, ◌+◌, ◌-◌, ◌≤◌, ◌<◌}
use native.Mathlib.Omega.{arith}
use mathlib.Core.List.{List, ◌∷◌}
use lib.ListN.{length, get_or, drop, length-drop, drop_of_length-le}
use lib.Seq.{drop-cons, get_or-drop}
use borrow.Author.Tests.{eq-eqb, ne_eqb, lt-ltb, le-ltb}
use Rattle.model.specs.Format.{byte_at, u16_at, u32_at, edge_body, first_record, volume_in}
use Rattle.list.specs.Reading.{ends, vertex_to, edge_to, bad_record, place, record_of, record_at}

-- numbers behind the first i + 1 bytes
u16_behind : (bs : List ℕ) (i k n : ℕ) → i + k ≡ n → u16_at (drop i bs) k ≡ u16_at bs n
unfolding u16_at byte_at
u16_behind bs i k n e =
    let a : i + (k + 1) ≡ n + 1 = omega arith in
    rw (get_or-drop i bs k 0, get_or-drop i bs (k + 1) 0, e, a)

u32_behind : (bs : List ℕ) (i k n : ℕ) → i + k ≡ n → u32_at (drop i bs) k ≡ u32_at bs n
unfolding u32_at
u32_behind bs i k n e = rw (u16_behind bs i k n e, u16_behind bs i (k + 2) (n + 2) (omega arith))

-- ---- the bytes of an edge, and its volume

-- 13 bytes in version 2, else 9
pub size_known : (version : ℕ) → version ≡ 2 → 13 ≡ 1 + edge_body version
unfolding edge_body
size_known version h = rw (eq-eqb version 2 h)

pub size_plain : (version : ℕ) → version ≢ 2 → 9 ≡ 1 + edge_body version
unfolding edge_body
size_plain version h = rw (ne_eqb version 2 h)

-- in version 2 an edge has 12 bytes behind its kind
pub body_known : (version : ℕ) → version ≡ 2 → edge_body version ≡ 12
unfolding edge_body
body_known version h = rw (eq-eqb version 2 h)

-- a volume is read in version 2, else it is 0
pub volume_known : (bs : List ℕ) (version i v : ℕ) → version ≡ 2 → v ≡ u32_at bs (i + 8) → v ≡ volume_in version (drop i bs)
unfolding volume_in
volume_known bs version i v h e = rw (eq-eqb version 2 h, u32_behind bs i 8 (i + 8) refl) e

pub volume_plain : (bs : List ℕ) (version : ℕ) → version ≢ 2 → 0 ≡ volume_in version bs
unfolding volume_in
volume_plain bs version h = rw (ne_eqb version 2 h)

-- ---- a record

module _ (bs : List ℕ) (version i : ℕ) where
  at_record : i < length bs → record_at bs (place i version) ≡ record_of (place i version) (get_or bs i 0 ∷ drop (suc i) bs)
  unfolding record_at
  at_record l = rw (drop-cons bs i 0 l)

  -- the list's end; a vertex; a kind that is neither: 4; an edge that is cut: 3; an edge
  pub record_end : length bs ≤ i → ends ≡ record_at bs (place i version)
  unfolding record_at record_of
  record_end l = rw (drop_of_length-le bs l)

  pub record_vertex : i < length bs → get_or bs i 0 ≡ 0x46 → vertex_to (place (i + 1) version) ≡ record_at bs (place i version)
  unfolding record_of first_record
  record_vertex l k = rw (at_record l, eq-eqb _ _ k, record_of)

  pub record_kind : i < length bs → get_or bs i 0 ≢ 0x46 → get_or bs i 0 ≢ 0x50 → bad_record 4 ≡ record_at bs (place i version)
  unfolding record_of first_record
  record_kind l k h = rw (at_record l, ne_eqb _ _ k, ne_eqb _ _ h, record_of)

  pub record_cut : (size : ℕ) → size ≡ 1 + edge_body version → i < length bs → get_or bs i 0 ≢ 0x46 → get_or bs i 0 ≡ 0x50 → length bs - i < size
      → bad_record 3 ≡ record_at bs (place i version)
  unfolding record_of first_record
  record_cut size s l k h c =
      let n : length (drop (suc i) bs) < edge_body version = rw (length-drop (suc i) bs) (omega arith) in
      rw (at_record l, ne_eqb _ _ k, eq-eqb _ _ h, lt-ltb _ _ n, record_of)

  pub record_edge : (size a b len volume : ℕ) → size ≡ 1 + edge_body version → i < length bs → get_or bs i 0 ≢ 0x46 → get_or bs i 0 ≡ 0x50
      → size ≤ length bs - i → a ≡ u16_at bs (i + 1) → b ≡ u16_at bs (i + 3) → len ≡ u32_at bs (i + 5) → volume ≡ volume_in version (drop (i + 1) bs)
      → edge_to (record { first = a; second = b; len = len; volume = volume }) (place (i + size) version) ≡ record_at bs (place i version)
  unfolding record_of first_record
  record_edge size a b len volume s l k h c ea eb el ev =
      let n : edge_body version ≤ length (drop (suc i) bs) = rw (length-drop (suc i) bs) (omega arith) in
      let z : i + size ≡ i + 1 + edge_body version = omega arith in
      let y : i + 1 ≡ suc i = omega arith in
      rw (
        at_record l,
        ne_eqb _ _ k,
        eq-eqb _ _ h,
        le-ltb _ _ n,
        ea,
        eb,
        el,
        ev,
        z,
        u16_behind bs (suc i) 0 (i + 1) (omega arith),
        u16_behind bs (suc i) 2 (i + 3) (omega arith),
        u32_behind bs (suc i) 4 (i + 5) (omega arith),
        y,
        record_of,
      )
