-- What follows from the ghost state of Groups for the labels of a register (`label_facts` in Registers/Labelled proves it of every register
-- that landing leaves).
use mathlib.Core.Path.{◌≡◌}
use mathlib.Core.Logic.{◌⊎◌, inl, inr}
use native.Mathlib.Omega.{arith}
use Prim.Native.Nat.{ℕ, ◌+◌, ◌*◌, ◌≤◌}
use mathlib.Core.Bool.{true, false}
use lib.ListN.{length}
use Rattle.model.specs.Basics.{floor_log}
use Rattle.model.specs.Graph.{degree, is_regular}
use Rattle.model.specs.Register.{Register, label_of}
use Rattle.model.proofs.Basics.Booleans.{true_or_false}
use Rattle.model.proofs.Walks.Degree.{is_two}

-- labels: 0 at singular vertices, no other twice, none too large; and the bound of the relabellings
pub record LabelFacts (r : Register) : Type 0 where
  pub singular_zero : (v : ℕ) → is_regular r.edges v ≡ false → label_of r v ≡ 0
  pub not_zero : (v : ℕ) → degree r.edges v ≡ 2 → 1 ≤ label_of r v
  pub unique : (v w : ℕ) → degree r.edges v ≡ 2 → degree r.edges w ≡ 2 → label_of r v ≡ label_of r w → v ≡ w
  pub most : (v : ℕ) → label_of r v ≤ 8192 * r.blocks + 8191
  pub bound : r.relabellings ≤ length r.edges * floor_log (length r.edges)

-- a vertex that wears 0 is singular
pub zero_then : (r : Register) → LabelFacts r → (v : ℕ) → label_of r v ≡ 0 → is_regular r.edges v ≡ false
zero_then r c v e = go (true_or_false (is_regular r.edges v))
  where
    go : (is_regular r.edges v ≡ true) ⊎ (is_regular r.edges v ≡ false) → is_regular r.edges v ≡ false
    go (inl q) = absurd (omega (arith, c.not_zero v (is_two r.edges v q)))
    go (inr q) = q
