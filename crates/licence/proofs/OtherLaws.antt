-- One house after the other: from the replay of its part of the tables to whether it holds a register.
use mathlib.Core.Path.{◌≡◌, refl, ap, ◌∙◌, subst}
use mathlib.Core.Logic.{◌≢◌}
use Prim.Native.Nat.{ℕ, suc, ◌+◌, ◌*◌, ◌-◌, ◌≤◌, ◌<◌}
use native.Mathlib.Omega.{arith}
use mathlib.Core.Bool.{Bool, true, false}
use mathlib.Core.List.{List}
use lib.ListN.{drop, get_or, length, length-replicate, take}
use borrow.Author.Tests.{eq-eqb, ne_eqb}
use Rattle.model.specs.Tables.{Counts, Tables, cleared, fits, no_counts}
use Rattle.theory.proofs.Registers.Kept.{cleared_fits}
use Rattle.model.proofs.Basics.Booleans.{not_both}
use Rattle.tables.specs.Meaning.{stored, tables}
use Rattle.tables.specs.Steps.{zeroed}
use Rattle.holding.specs.Replay.{Regrows}
use Rattle.holding.proofs.HeldLaws.{replay_held, replay_none}
use Rattle.admission.proofs.SizeLaws.{zeroed_cleared}
use Rattle.nursery.specs.Nursery.{part, tables_in}
use Rattle.heads.specs.Others.{is_held, others_in, passes_in}

-- the replay in cleared scratch tells whether a register is held
pub held_told : (t : Tables) (c : Counts) (s : Tables) (r : Bool) → fits s ≡ true → Regrows r t c (zeroed s) → r ≡ is_held (stored t c)
unfolding is_held
held_told t c s r f g = go r refl
  where
    k : Regrows r t c cleared
    k = subst (λ (u : Tables). Regrows r t c u) (zeroed_cleared s f) g

    go : (b : Bool) → r ≡ b → r ≡ is_held (stored t c)
    go true e = let o = replay_held t c (k.if_true e) in rw (e, is_held, o.1)
    go false e = rw (e, is_held, replay_none t c (λ q. not_both r (k.true_if q) e))

-- of the part of house h, as the code cuts it out
module _ (h : ℕ) (degrees sides ends lengths volumes labels : List ℕ) (c : Counts) (s : Tables) (r : Bool) (f : fits s ≡ true) where
  one : 4096 * h + 4096 - 4096 * h ≡ 4096
  one = omega arith

  two : 8192 * h + 8192 - 8192 * h ≡ 8192
  two = omega arith

  -- the replay of this part tells whether the house holds a register
  pub part_held : Regrows r
      (tables
      (take (4096 * h + 4096 - 4096 * h) (drop (4096 * h) degrees))
      (take (8192 * h + 8192 - 8192 * h) (drop (8192 * h) sides))
      (take (8192 * h + 8192 - 8192 * h) (drop (8192 * h) ends))
      (take (4096 * h + 4096 - 4096 * h) (drop (4096 * h) lengths))
      (take (4096 * h + 4096 - 4096 * h) (drop (4096 * h) volumes))
      (take (4096 * h + 4096 - 4096 * h) (drop (4096 * h) labels)))
      c
      (zeroed s)
      → r ≡ is_held (stored (tables_in h (tables degrees sides ends lengths volumes labels)) c)
  unfolding tables_in part
  part_held g = held_told (tables_in h (tables degrees sides ends lengths volumes labels)) c s r f (rw (one, two) at g)

-- ---- one after the other

module _ (t : Tables) (heads : List Counts) (house : ℕ) where
  -- nothing is asked of the house that is left out
  pub pass_own : (h : ℕ) → h ≡ house → true ≡ passes_in t heads house h
  unfolding passes_in
  pass_own h e = rw (eq-eqb h house e, passes_in)

  -- any other passes if it holds a register
  pub pass_other : (h : ℕ) (r : Bool) (own : Counts) → h ≢ house → own ≡ get_or heads h no_counts → r ≡ is_held (stored (tables_in h t) own) → r ≡ passes_in t heads house h
  unfolding passes_in
  pass_other h r own d q e = rw (ne_eqb h house d, passes_in, ← q) e

  -- a house that passes, one that does not, and the end
  pub others_on : (h : ℕ) (x : Bool) → h < 8 → passes_in t heads house h ≡ true → others_in t heads house (8 - h) h ≡ x → others_in t heads house (8 - (h + 1)) (h + 1) ≡ x
  unfolding others_in
  others_on h x l p e = let k : 8 - h ≡ suc (8 - (h + 1)) = omega arith in rw (k, others_in, p) at e

  pub others_off : (h : ℕ) (x : Bool) → h < 8 → passes_in t heads house h ≡ false → others_in t heads house (8 - h) h ≡ x → false ≡ x
  unfolding others_in
  others_off h x l p e = let k : 8 - h ≡ suc (8 - (h + 1)) = omega arith in rw (k, others_in, p) at e

  pub others_end : (h : ℕ) (x : Bool) → 8 ≤ h → others_in t heads house (8 - h) h ≡ x → true ≡ x
  unfolding others_in
  others_end h x l e = let k : 8 - h ≡ 0 = omega arith in rw (k, others_in) at e

-- zeros of the same sizes again
pub zeros_again : (s u : Tables) → u ≡ zeroed s → zeroed u ≡ u
unfolding zeroed
zeros_again s u e = rw (e, length-replicate {A = ℕ} (length s.degrees) 0, length-replicate {A = ℕ} (length s.sides) 0, length-replicate {A = ℕ} (length s.ends) 0, length-replicate {A = ℕ} (length s.lengths) 0, length-replicate {A = ℕ} (length s.volumes) 0, length-replicate {A = ℕ} (length s.labels) 0)

pub zeros_fit : (s u : Tables) → fits s ≡ true → u ≡ zeroed s → fits u ≡ true
zeros_fit s u f e = ap fits (e ∙ zeroed_cleared s f) ∙ cleared_fits
