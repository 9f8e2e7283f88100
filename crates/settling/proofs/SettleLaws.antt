-- The report, or 9: the ways out of `settle`.
use mathlib.Core.Path.{◌≡◌, refl, ◌∙◌}
use Prim.Native.Nat.{ℕ, ◌*◌, ◌≤◌, ◌<◌}
use native.Mathlib.Omega.{arith}
use mathlib.Core.List.{List}
use lib.ListN.{length}
use borrow.Author.Tests.{lt-ltb, le-ltb}
use Rattle.model.specs.Basics.{in_front, max_vertices}
use Rattle.model.specs.Queries.{reported, refuses}
use Rattle.model.specs.Tables.{Tables, Counts, sizes}
use Rattle.nursery.specs.Removal.{change_numbers}
use Rattle.nursery.proofs.Removal.{numbers_three}
use Rattle.text.specs.Pages.{page, write}
use Rattle.text.proofs.PageLaws.{write_front}
use Rattle.tables.specs.Steps.{zeroed}
use Rattle.admission.specs.Lent.{outcome}
use Rattle.replacing.specs.Changes.{changes_in}
use Rattle.settling.specs.Settling.{settled_in}

module _ (t s : Tables) (c c' : Counts) (xs : List ℕ) (k : ℕ) (e : k ≡ length (changes_in t.labels s.labels max_vertices 0)) where
  -- a slice that is too short
  pub settle_short : (s' : Tables) → length xs < 3 * k → s' ≡ zeroed s → outcome t c s' xs (refuses 9) ≡ settled_in t c s c' xs
  unfolding settled_in
  settle_short s' h z = rw (← e, lt-ltb (length xs) (3 * k) h, z)

  -- one that is not
  pub settle_done : (t' s' : Tables) (ys : List ℕ) → 3 * k ≤ length xs → ys ≡ (write (change_numbers (changes_in t.labels s.labels max_vertices 0)) (page xs 0)).slice
      → (sizes s ≡ sizes t → t' ≡ s) → s' ≡ zeroed s → sizes s ≡ sizes t → outcome t' c' s' ys (reported k) ≡ settled_in t c s c' xs
  unfolding settled_in
  settle_done t' s' ys h w f z q =
      let cs = changes_in t.labels s.labels max_vertices 0 in
      let room : length (change_numbers cs) ≤ length xs = omega (arith, h, e, numbers_three cs) in
      let front : ys ≡ in_front (change_numbers cs) xs = w ∙ write_front (change_numbers cs) xs _ _ room refl in
      rw (← e, le-ltb (length xs) (3 * k) h, z, f q, front)
