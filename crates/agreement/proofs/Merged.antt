-- Both ends are leaves of two chains: what is left is what `merge` says.
use Rattle.std.specs.Prelude.{Some, None, Option}
use mathlib.Core.Path.{◌≡◌, refl, sym, ap}
use mathlib.Core.Logic.{◌≢◌}
use Prim.Native.Nat.{ℕ, ◌<◌}
use native.Mathlib.Omega.{arith}
use mathlib.Core.Bool.{false}
use mathlib.Core.List.{List, [], ◌∷◌, ◌++◌}
use lib.ListN.{length, get_or}
use Rattle.model.specs.Graph.{Edge, degree, ends_at, far}
use Rattle.model.specs.Cases.{closes_ring}
use Rattle.model.specs.Labels.{Labelling, Marks, merge}
use Rattle.tables.specs.Steps.{most16}
use Rattle.tables.proofs.Sums.{more16_is}
use Rattle.tables.specs.Walks.{Met}
use Rattle.counters.specs.Numbers.{vertex_of}
use Rattle.labels.specs.Changes.{Changed}
use Rattle.joining.specs.Merging.{keeper_for, keeper_in, keeping}
use Rattle.joining.specs.declared.merging.Keeper.{Keeper}
use Rattle.joining.proofs.Merges.{merge_kept}
use Rattle.agreement.proofs.Joining.{Ground, ChangedAs, begins, joins}
use Rattle.agreement.proofs.Merging.{Keeps, da, db, kept, keeps_first, keeps_neither, keeps_second, merge_first, merge_second, merging, met, off, side_a, side_b}

module _ {es : List Edge} {n : Edge} {degrees sides ends labels : List ℕ} {m : Marks} (k : Ground es n degrees sides ends labels m)
    (a b : ℕ) (la : degree es a ≡ 1) (lb : degree es b ≡ 1) (oa : ends_at a n ≡ 1) (ob : ends_at b n ≡ 1) (ab : a ≢ b) (blocks : ℕ) where
  abbrev walked : Met
  walked = met k a b la lb oa ob ab blocks

  abbrev merged : Changed
  merged = merging k a b la lb oa ob ab blocks

  abbrev d₁ : ℕ
  d₁ = da k a b la lb oa ob ab blocks

  abbrev d₂ : ℕ
  d₂ = db k a b la lb oa ob ab blocks

  -- where none is, what is left is what `merge` says
  pub merges : closes_ring es a b ≡ false → blocks < most16 → get_or labels a 0 ≡ 0 → get_or labels b 0 ≡ 0 → ChangedAs (es ++ (n ∷ [])) labels merged (merge es blocks a b m)
  merges c bb za zb = go (kept k a b la lb oa ob ab blocks)
    where
      keeps : (keeper : Option Keeper) (g : Labelling) → keeper ≡ keeper_for degrees a b walked → merge es blocks a b m ≡ g
          → ChangedAs (es ++ (n ∷ [])) labels (keeper_in keeper degrees sides ends labels blocks a b (length es) (length es) d₁ d₂) g → ChangedAs (es ++ (n ∷ [])) labels merged (merge es blocks a b m)
      keeps keeper g p q j =
          rw (← merge_kept degrees sides ends labels blocks a b (length es) (length es) d₁ (far es d₁ a) d₂ (far es d₂ b) walked (side_a k a b la lb oa ob ab blocks) (side_b k a b la lb oa ob ab blocks) refl keeper (off k a b la lb oa ob ab blocks c) p, q) j

      go : Keeps k a b la lb oa ob ab blocks → ChangedAs (es ++ (n ∷ [])) labels merged (merge es blocks a b m)
      go (keeps_first p l h) = keeps (Some (keeping (vertex_of a) (vertex_of b))) _ p (merge_first k a b la lb oa ob ab blocks l) (joins k a b la lb oa ob ab blocks h)
      go (keeps_second p l) = keeps (Some (keeping (vertex_of b) (vertex_of a))) _ p (merge_second k a b la lb oa ob ab blocks l) (joins k b a lb la ob oa (λ e. ab (sym e)) blocks (omega arith))
      go (keeps_neither p na nb) =
          keeps None _ p (merge_first k a b la lb oa ob ab blocks (omega (arith, ap length na, ap length nb))) (rw (more16_is blocks bb) (begins k a b la lb oa ob ab blocks na nb za zb))
