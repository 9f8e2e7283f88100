-- The five ways in which a new edge joins groups.
use mathlib.Core.Path.{◌≡◌, refl}
use mathlib.Core.Logic.{◌≢◌}
use Prim.Native.Nat.{ℕ, suc, ◌+◌, ◌*◌, ◌≤◌, ◌<◌}
use native.Mathlib.Omega.{arith}
use native.Mathlib.Nat.{mul-le-mul_left}
use native.Mathlib.Decide.{dec_le}
use mathlib.Core.Bool.{Bool, true, false}
use mathlib.Core.List.{List}
use lib.ListN.{length}
use Rattle.model.specs.Basics.{floor_log}
use Rattle.model.specs.Graph.{Edge, degree, ends_at, far}
use Rattle.model.proofs.Basics.Booleans.{not_both}
use Rattle.model.proofs.Basics.FloorLog.{floor_log_fits, floor_log_most, floor_log_mono}
use Rattle.model.proofs.Walks.Degree.{Proper}
use Rattle.model.proofs.Walks.Turn.{At}
use Rattle.theory.proofs.Groups.Shape.{Shape, size, Courses, size_fresh, spent_fresh}
use Rattle.theory.proofs.Groups.Ends.{HighEnd, LowEnd, high_none, high_leaf, low_none, low_leaf, low_closing}

-- ---- arithmetic of the four

-- a merge of groups of a and b edges has room for b + 1 relabellings
floor_log_merge : (a b : ℕ) → b ≤ a → 1 ≤ b → a * floor_log a + b * floor_log b + b + 1 ≤ (a + b + 1) * floor_log (a + b + 1)
floor_log_merge a b h q =
    let y : suc (floor_log b) ≤ floor_log (a + b + 1) = floor_log_most (a + b + 1) (suc (floor_log b)) (omega (arith, floor_log_fits b q)) in
    let one : 1 ≤ floor_log (a + b + 1) = floor_log_most (a + b + 1) 1 (omega arith) in
    omega (
      arith,
      one,
      mul-le-mul_left a (floor_log_mono a (a + b + 1) (omega arith) (omega arith)),
      mul-le-mul_left b y,
    )

grow_one : (s c : ℕ) → 1 ≤ s → c + s ≤ s * floor_log s + 1 → c + (s + 1) ≤ (s + 1) * floor_log (s + 1) + 1
grow_one s c l q =
    let one : 1 ≤ floor_log (s + 1) = floor_log_most (s + 1) 1 (omega arith) in
    omega (arith, one, q, mul-le-mul_left s (floor_log_mono s (s + 1) l (omega arith)))

grow_shut : (s c k : ℕ) → k < s → c + s ≤ s * floor_log s + 1 → c + k ≤ (s + 1) * floor_log (s + 1)
grow_shut s c k l q = omega (arith, q, mul-le-mul_left s (floor_log_mono s (s + 1) (omega arith) (omega arith)))

grow_two : (s t c e k : ℕ) → k < s → k < t → c + s ≤ s * floor_log s + 1 → e + t ≤ t * floor_log t + 1 → c + e + k + (s + t + 1) ≤ (s + t + 1) * floor_log (s + t + 1) + 1
grow_two s t c e k a b q r = go (dec_le s t)
  where
    go : Dec (s ≤ t) → c + e + k + (s + t + 1) ≤ (s + t + 1) * floor_log (s + t + 1) + 1
    go (yes l) = let m : t * floor_log t + s * floor_log s + s + 1 ≤ (t + s + 1) * floor_log (t + s + 1) = floor_log_merge t s l (omega arith) in
        let z : t + s + 1 ≡ s + t + 1 = omega arith in
        let m' : t * floor_log t + s * floor_log s + s + 1 ≤ (s + t + 1) * floor_log (s + t + 1) = rw z at m in
        omega (arith, m', q, r)
    go (no l) = omega (arith, floor_log_merge s t (omega arith) (omega arith), q, r)

-- ---- the four

-- How the edge joins the groups: what it meets at its two ends, and that the relabellings, k of them, are paid for.
pub record Seam (es : List Edge) (p : Edge) (h : Shape) (gx gy x y k : ℕ) (b r : Bool) : Type 0 where
  pub differ : gx ≢ gy
  pub x_y : x ≢ y
  pub high : HighEnd es p h gx x b
  pub low : LowEnd es p h gx gy y b
  pub ring_shut : r ≡ true → b ≡ false
  pub pays : let s = size h (length es) gx + size h (length es) gy + 1 in h.spent gx + h.spent gy + k ≤ s * floor_log s
  pub pays_open : b ≡ true → let s = size h (length es) gx + size h (length es) gy + 1 in h.spent gx + h.spent gy + k + s ≤ s * floor_log s + 1
  pub pays_ring : r ≡ true → let s = size h (length es) gx + size h (length es) gy + 1 in h.spent gx + h.spent gy + k + s ≤ s * floor_log s + 1

module _ (es : List Edge) (p : Edge) (pr : Proper es) {relabellings : ℕ} {h : Shape} (w : Courses es relabellings h) (x y : ℕ) (ex : ends_at x p ≡ 1) (ey : ends_at y p ≡ 1) (d : x ≢ y) where
  abbrev n : ℕ
  n = length es

  -- no end is a leaf: the edge is a group of its own
  pub seam_new : degree es x ≢ 1 → degree es y ≢ 1 → Seam es p h (length es) (suc (length es)) x y 0 true false
  seam_new nx ny =
      let z₁ = size_fresh w n (omega arith) in
      let z₂ = size_fresh w (suc n) (omega arith) in
      let c₁ = spent_fresh w n (omega arith) in
      let c₂ = spent_fresh w (suc n) (omega arith) in
      record {
        differ = λ q. omega arith;
        x_y = d;
        high = high_none es p pr w x ex nx;
        low = low_none es p pr w n (suc n) y (omega arith) ey ny;
        ring_shut = λ t. absurd (not_both _ t refl);
        pays = rw (z₁, z₂, c₁, c₂) (omega arith);
        pays_open = λ t. rw (z₁, z₂, c₁, c₂) (omega arith);
        pays_ring = λ t. absurd (not_both _ t refl);
      }

  leaf_cost : (x e : ℕ) → degree es x ≡ 1 → At es x e
      → h.spent (h.group e) + size h (length es) (h.group e) ≤ size h (length es) (h.group e) * floor_log (size h (length es) (h.group e)) + 1
  leaf_cost x e f a = w.cost_open (h.group e) (w.leaf_open x e f a)

  -- x is a leaf and stands at the high end of its group
  module _ (e : ℕ) (fx : degree es x ≡ 1) (a : At es x e) (hi : far es e (h.low e) ≡ x) (top : suc (h.place e) ≡ size h (length es) (h.group e)) where
    abbrev s₁ : ℕ
    s₁ = size h (length es) (h.group e)

    -- one end is a leaf: the edge follows its group
    pub seam_extend : degree es y ≢ 1 → Seam es p h (h.group e) (length es) x y 0 true false
    seam_extend ny =
        let c = spent_fresh w n (omega arith) in
        let m : h.spent (h.group e) + (s₁ + 1) ≤ (s₁ + 1) * floor_log (s₁ + 1) + 1 = grow_one s₁ (h.spent (h.group e)) (omega (arith, top)) (leaf_cost x e fx a) in
        let sz : s₁ + size h n n + 1 ≡ s₁ + 1 = omega (arith, size_fresh w n (omega arith)) in
        record {
          differ = λ q. omega (arith, w.below e a.inside);
          x_y = d;
          high = high_leaf es p pr w x e ex fx a hi top;
          low = low_none es p pr w (h.group e) n y (omega arith) ey ny;
          ring_shut = λ t. absurd (not_both _ t refl);
          pays = rw sz (omega (arith, m));
          pays_open = λ t. rw sz (omega (arith, m));
          pays_ring = λ t. absurd (not_both _ t refl);
        }

    -- y is a leaf and stands at the low end of its group
    module _ (c : ℕ) (fy : degree es y ≡ 1) (a' : At es y c) (lo : h.low c ≡ y) (bot : h.place c ≡ 0) (k : ℕ) (k₁ : k < size h (length es) (h.group e)) where
      -- two leaves of different groups: the one group follows the other
      pub seam_merge : h.group e ≢ h.group c → k < size h (length es) (h.group c) → Seam es p h (h.group e) (h.group c) x y k true false
      seam_merge ne k₂ =
          let m = grow_two s₁ (size h n (h.group c)) (h.spent (h.group e)) (h.spent (h.group c)) k k₁ k₂ (leaf_cost x e fx a) (leaf_cost y c fy a') in
          record {
            differ = ne;
            x_y = d;
            high = high_leaf es p pr w x e ex fx a hi top;
            low = low_leaf es p pr w (h.group e) y c ey fy a' lo bot;
            ring_shut = λ t. absurd (not_both _ t refl);
            pays = omega (arith, m);
            pays_open = λ t. m;
            pays_ring = λ t. absurd (not_both _ t refl);
          }

      -- two leaves of one group: it is closed
      pub seam_close : h.group c ≡ h.group e → Seam es p h (h.group e) (length es) x y k false false
      seam_close eq =
          let f = spent_fresh w n (omega arith) in
          let m : h.spent (h.group e) + k ≤ (s₁ + 1) * floor_log (s₁ + 1) = grow_shut s₁ (h.spent (h.group e)) k k₁ (leaf_cost x e fx a) in
          let sz : s₁ + size h n n + 1 ≡ s₁ + 1 = omega (arith, size_fresh w n (omega arith)) in
          record {
            differ = λ q. omega (arith, w.below e a.inside);
            x_y = d;
            high = high_leaf es p pr w x e ex fx a hi top;
            low = low_closing es p pr w (h.group e) y c ey fy a' lo bot n (omega arith) eq;
            ring_shut = λ t. refl;
            pays = rw sz (omega (arith, m));
            pays_open = λ t. absurd (not_both _ t refl);
            pays_ring = λ t. absurd (not_both _ t refl);
          }

    -- the two leaves of one chain, which is the whole group: nothing is relabelled, and the group keeps what pays for a tap
    module _ (c : ℕ) (fy : degree es y ≡ 1) (a' : At es y c) (lo : h.low c ≡ y) (bot : h.place c ≡ 0) where
      -- two leaves of one chain: the group is a ring
      pub seam_ring : h.group c ≡ h.group e → Seam es p h (h.group e) (length es) x y 0 false true
      seam_ring eq =
          let f = spent_fresh w n (omega arith) in
          let m : h.spent (h.group e) + (s₁ + 1) ≤ (s₁ + 1) * floor_log (s₁ + 1) + 1 = grow_one s₁ (h.spent (h.group e)) (omega (arith, top)) (leaf_cost x e fx a) in
          let sz : s₁ + size h n n + 1 ≡ s₁ + 1 = omega (arith, size_fresh w n (omega arith)) in
          record {
            differ = λ q. omega (arith, w.below e a.inside);
            x_y = d;
            high = high_leaf es p pr w x e ex fx a hi top;
            low = low_closing es p pr w (h.group e) y c ey fy a' lo bot n (omega arith) eq;
            ring_shut = λ t. refl;
            pays = rw sz (omega (arith, m));
            pays_open = λ t. absurd (not_both _ t refl);
            pays_ring = λ t. rw sz (omega (arith, m));
          }
