-- Numbers byte by byte, and the parts of a list.
use mathlib.Core.Path.{◌≡◌, refl, sym}
use Prim.Native.Nat.{ℕ, suc, ◌+◌, ◌-◌, ◌≤◌, ◌<◌}
use native.Mathlib.Omega.{arith}
use mathlib.Core.List.{List, [], ◌∷◌, ◌++◌}
use lib.ListN.{replicate}
use Rattle.model.specs.Basics.{bytes2, bytes4}
use Rattle.model.specs.Format.{edge_bytes, header}
use Rattle.std.specs.Int.{to_le_bytes, w16, w32}
use Rattle.text.specs.Pages.{Page, write}
use Rattle.text.proofs.PageLaws.{write_append, write_two}

-- the bytes of a number, the lowest first
pub bytes2_are : (n : ℕ) → to_le_bytes w16 n ≡ bytes2 n
unfolding bytes2
bytes2_are n = refl

pub bytes4_are : (n : ℕ) → to_le_bytes w32 n ≡ bytes4 n
unfolding bytes4
bytes4_are n = refl

-- ---- a list

-- mark and version are the header
pub header_law : (word : List ℕ) (p q r : Page) → word ≡ 0x50 ∷ 0x4E ∷ 0x4C ∷ [] → q ≡ write word p → r ≡ write (bytes2 2) q
    → r ≡ write header p
unfolding header
header_law word p q r w e f = write_two (0x50 ∷ 0x4E ∷ 0x4C ∷ []) (bytes2 2) p q r (rw w at e) f

-- kind, ends, length and volume are the record of an edge
pub edge_law : (a b len volume : ℕ) (p q r s t u : Page) → q ≡ write (0x50 ∷ []) p → r ≡ write (bytes2 a) q → s ≡ write (bytes2 b) r
    → t ≡ write (bytes4 len) s → u ≡ write (bytes4 volume) t
    → u ≡ write (edge_bytes (record { first = a; second = b; len = len; volume = volume })) p
unfolding edge_bytes
edge_law a b len volume p q r s t u e₁ e₂ e₃ e₄ e₅ =
    write_two (0x50 ∷ bytes2 a) (bytes2 b ++ (bytes4 len ++ bytes4 volume)) p r u (write_two (0x50 ∷ []) (bytes2 a) p q r e₁ e₂)
    (write_two (bytes2 b) (bytes4 len ++ bytes4 volume) r s u e₃ (write_two (bytes4 len) (bytes4 volume) s t u e₄ e₅))

-- a loop that writes one byte n times: turn i of it, and its end
pub copies_on : (x n i : ℕ) (p q : Page) → i < n → q ≡ write (x ∷ []) p → write (replicate (n - (i + 1)) x) q ≡ write (replicate (n - i) x) p
copies_on x n i p q h e =
    let next : n - i ≡ suc (n - (i + 1)) = omega (arith, h) in rw (next, e) (sym (write_append (x ∷ []) (replicate (n - (i + 1)) x) p))

pub copies_end : (x n i : ℕ) (p : Page) → n ≤ i → p ≡ write (replicate (n - i) x) p
unfolding write
copies_end x n i p h =
    let none : n - i ≡ 0 = omega (arith, h) in rw none refl
