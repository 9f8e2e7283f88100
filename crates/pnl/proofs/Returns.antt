-- What a call returns, as a 32-bit number with a sign: a refusal made negative, a count of bytes, the value of an inner call.
use mathlib.Core.Path.{◌≡◌, ap, ◌∙◌}
use Prim.Native.Nat.{ℕ, zero, suc, ◌≤◌, ◌<◌}
use native.Mathlib.Omega.{arith}
use mathlib.Core.List.{List}
use lib.IntN.{ℤ, pos, neg_ℤ, ◌-ℤ◌, +ℤ_idl}
use lib.Signed.{mag}
use mir.Syntax.{w32}
use mir.Val.{SFits, to_z, of_z}
use mir.Facts.{to_z_pos, to_z-of_z}
use Rattle.model.specs.FromC.{Returned}
use Rattle.counters.specs.Refusals.{number_of}
use Rattle.counters.specs.declared.refusals.Refusal.{Refusal}
use Rattle.counters.specs.declared.refusals.Refusal.TheVariants.{NoMark, Version, Cut, UnknownKind, NotLanded, SameVertex, Length, NotRegular, ShortSlice, NotGrown, TooManyVertices, TooManyEdges, WrongSize, Volume, OtherQuote, Beyond, OverLimit, OutOfPlace, NotRemovable, Ended}
use Rattle.pnl.specs.FromC.{returned}

number_few : (x : Refusal) → number_of x ≤ 39
number_few NoMark = omega arith
number_few Version = omega arith
number_few Cut = omega arith
number_few UnknownKind = omega arith
number_few NotLanded = omega arith
number_few SameVertex = omega arith
number_few Length = omega arith
number_few NotRegular = omega arith
number_few ShortSlice = omega arith
number_few NotGrown = omega arith
number_few TooManyVertices = omega arith
number_few TooManyEdges = omega arith
number_few WrongSize = omega arith
number_few Volume = omega arith
number_few OtherQuote = omega arith
number_few Beyond = omega arith
number_few OverLimit = omega arith
number_few OutOfPlace = omega arith
number_few NotRemovable = omega arith
number_few Ended = omega arith

negated : (n : ℕ) → n ≤ 39 → to_z w32 0 -ℤ to_z w32 n ≡ neg_ℤ (pos n)
negated n h = rw (to_z_pos w32 {n = n} (omega arith)) (+ℤ_idl (neg_ℤ (pos n)))

negative_fits : (n : ℕ) → n ≤ 39 → SFits w32 (neg_ℤ (pos n))
negative_fits zero h = record { sfits = omega arith }
negative_fits (suc n) h = record { sfits = omega arith }

-- a refusal's number: it fits, its negative fits, and that is what is read back
module _ (x : Refusal) (n : ℕ) (e : n ≡ number_of x) where
  few : n ≤ 39
  few = rw e (number_few x)

  -- a refusal's number fits in 32 bits with a sign
  pub number_fits : SFits w32 (pos n)
  number_fits = record { sfits = omega (arith, few) }

  -- 0 less a refusal's number fits too
  pub negation_fits : SFits w32 (to_z w32 0 -ℤ to_z w32 n)
  negation_fits = rw (negated n few) (negative_fits n few)

  -- what is read back of that is the refusal made negative
  pub negation_is : to_z w32 (of_z w32 (to_z w32 0 -ℤ to_z w32 n)) ≡ neg_ℤ (pos (number_of x))
  negation_is = to_z-of_z negation_fits ∙ negated n few ∙ ap (λ (k : ℕ). neg_ℤ (pos k)) e

-- the value of a call that is handed on
pub value_kept : {v : ℤ} → mag v < 2147483648 → to_z w32 (of_z w32 v) ≡ v
value_kept h = to_z-of_z {w = w32} (record { sfits = h })

-- the value of an inner call is read back as it was
pub handed : {s : List ℕ} {v : ℤ} {z : Returned} → mag v < 2147483648 → returned s v ≡ z → returned s (to_z w32 (of_z w32 v)) ≡ z
handed {s} h e = ap (returned s) (value_kept h) ∙ e

-- a count of answer bytes is read back as it is
pub count_is : (n : ℕ) → n ≤ 1572840 → to_z w32 n ≡ pos n
count_is n h = to_z_pos w32 {n = n} (omega arith)
