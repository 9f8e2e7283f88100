-- The refusals of an edge, in their order.
use Rattle.std.specs.Prelude.{if◌then◌else◌}
use mathlib.Core.Path.{◌≡◌, refl, sym, ap, ◌∙◌}
use mathlib.Core.Bool.{Bool, true, false, ◌||◌}
use mathlib.Core.Option.{none, some}
use Prim.Native.Nat.{ℕ, ◌<◌, ◌≤◌}
use native.Mathlib.Omega.{arith}
use native.Mathlib.Decide.{dec_le, dec_lt}
use borrow.Author.Tests.{eq-eqb, ne_eqb, lt-ltb, le-ltb, le-leb, lt-leb}
use lib.Dec.{eqb, ltb}
use Rattle.model.specs.Basics.{max_edges, max_length, max_volume}
use Rattle.model.specs.Graph.{Edge}
use Rattle.model.specs.Tables.{Counts}
use Rattle.counters.specs.Numbers.{is_landed, within, volume_of}
use Rattle.counters.proofs.Within.{within_yes, within_below, within_above, volume_known, volume_unknown, volume_above}
use Rattle.checking.specs.Checks.{passed, failed, stored_volume, check_in}

-- the test of refusal 7 is that of the checked constructor
length_test : (n : ℕ) → within 1 max_length n ≡ (if eqb n 0 || ltb max_length n then none else some n)
length_test n =
    elim (dec_lt n 1) [
      | yes h ↦ sym (within_below _ _ _ h) ∙ rw (eq-eqb n 0 (omega arith))
      | no h ↦ elim (dec_le n max_length) [
        | yes g ↦ sym (within_yes _ _ _ (omega arith) g) ∙ rw (ne_eqb n 0 (λ e. h (omega arith)), le-ltb max_length n g)
        | no g ↦ sym (within_above _ _ _ (omega arith) (omega arith))
            ∙ rw (ne_eqb n 0 (λ e. h (omega arith)), lt-ltb max_length n (omega arith))
      ]
    ]

if_none : (t : Bool) (n : ℕ) → none ≡ (if t then none else some n) → t ≡ true
if_none true n h = refl
if_none false n h = cc

if_some : (t : Bool) (m n : ℕ) → some m ≡ (if t then none else some n) → (t ≡ false) × (m ≡ n)
if_some true m n h = (cc, cc)
if_some false m n h = (refl, cc)

-- the test of refusal 31 is that of `check_volume`
volume_test : (n : ℕ) → stored_volume (volume_of n) ≡ (if ltb max_volume n then none else some n)
volume_test n =
    elim (dec_le n max_volume) [
      | yes g ↦ elim (dec_lt n 1) [
        | yes h ↦ ap stored_volume (sym (volume_unknown n h)) ∙ (let z : n ≡ 0 = omega arith in rw (le-ltb max_volume n g, z))
        | no h ↦ ap stored_volume (sym (volume_known n (omega arith) g)) ∙ rw (le-ltb max_volume n g)
      ]
      | no g ↦ ap stored_volume (sym (volume_above n (omega arith))) ∙ rw (lt-ltb max_volume n (omega arith))
    ]

-- an edge from a to b, n mm long and of volume v: how it is checked
module _ (c : Counts) (limit a b n v : ℕ) where
  abbrev edge : Edge
  edge = record { first = a; second = b; len = n; volume = v }

  -- the first end is not landed: 5
  pub check_first : is_landed c.vertices a ≡ false → failed 5 ≡ check_in c limit edge
  unfolding check_in
  check_first h = rw h

  -- the second end is not landed: 5
  pub check_second : is_landed c.vertices a ≡ true → is_landed c.vertices b ≡ false → failed 5 ≡ check_in c limit edge
  unfolding check_in
  check_second h g = rw (h, g)

  module _ (h : is_landed c.vertices a ≡ true) (g : is_landed c.vertices b ≡ true) where
    -- both ends are one vertex: 6
    pub check_same : a ≡ b → failed 6 ≡ check_in c limit edge
    unfolding check_in
    check_same e = rw (h, g, eq-eqb _ _ e)

    module _ (e : a ≡ b → ⊥) where
      -- the length is out of bounds: 7
      pub check_length : none ≡ within 1 max_length n → failed 7 ≡ check_in c limit edge
      unfolding check_in
      check_length l = rw (h, g, ne_eqb _ _ e, if_none (eqb n 0 || ltb max_length n) n (l ∙ length_test n))

      module _ (m : ℕ) (l : some m ≡ within 1 max_length n) where
        length_is : ((eqb n 0 || ltb max_length n) ≡ false) × (m ≡ n)
        length_is = if_some (eqb n 0 || ltb max_length n) m n (l ∙ length_test n)

        -- the volume is out of range: 31
        pub check_volume : none ≡ stored_volume (volume_of v) → failed 31 ≡ check_in c limit edge
        unfolding check_in
        check_volume w = rw (h, g, ne_eqb _ _ e, length_is.0, if_none (ltb max_volume v) v (w ∙ volume_test v))

        module _ (u : ℕ) (w : some u ≡ stored_volume (volume_of v)) where
          volume_is : (ltb max_volume v ≡ false) × (u ≡ v)
          volume_is = if_some (ltb max_volume v) u v (w ∙ volume_test v)

          -- no room for an edge: 23
          pub check_edges : max_edges ≤ c.edges → failed 23 ≡ check_in c limit edge
          unfolding check_in
          check_edges o = rw (h, g, ne_eqb _ _ e, length_is.0, volume_is.0, le-leb _ _ o)

          -- the limit is reached: 36
          pub check_limit : c.edges < max_edges → limit ≤ c.edges → failed 36 ≡ check_in c limit edge
          unfolding check_in
          check_limit o k = rw (h, g, ne_eqb _ _ e, length_is.0, volume_is.0, lt-leb _ _ o, le-leb _ _ k)

          -- no refusal holds: the edge passes, with the numbers that it came with
          pub check_passed : (a' b' : ℕ) → a' ≡ a → b' ≡ b → c.edges < max_edges → c.edges < limit → passed a' b' m u ≡ check_in c limit edge
          unfolding check_in
          check_passed a' b' x y o k =
              rw (h, g, ne_eqb _ _ e, length_is.0, volume_is.0, lt-leb _ _ o, lt-leb _ _ k, length_is.1, volume_is.1, x, y)
