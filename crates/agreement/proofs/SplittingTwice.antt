-- The split of both ends, on one ring or not; and the count that is read before.
use mathlib.Core.Path.{◌≡◌, ap₂, sym, ◌∙◌}
use mathlib.Core.Logic.{◌≢◌, ◌⊎◌, inl, inr}
use Prim.Native.Nat.{ℕ, ◌+◌, ◌*◌, ◌≤◌, ◌<◌}
use native.Mathlib.Omega.{arith}
use mathlib.Core.Bool.{true, false}
use mathlib.Core.List.{List}
use lib.ListN.{length}
use Rattle.model.specs.Graph.{Edge, degree, lower_numbered, once_round}
use Rattle.model.specs.Labels.{Labelling, Marks, base, on_one_ring, relabel_count, vertex_on_ring, split_or_tap, split_two}
use Rattle.tables.specs.Steps.{most16, most32, sum32}
use Rattle.tables.proofs.Sums.{sum32_is}
use Rattle.labels.specs.Changes.{Changed}
use Rattle.parting.specs.Splitting.{split_both_in}
use Rattle.parting.specs.declared.splitting.Splits.TheVariants.{Both}
use Rattle.counting.specs.Counting.{split_count_in}
use Rattle.model.proofs.Basics.Booleans.{true_or_false}
use Rattle.theory.proofs.Labels.Relabellings.{relabel_count_same}
use Rattle.model.proofs.Walks.Degree.{Proper}
use Rattle.agreement.proofs.Relabelled.{relabelled_most}
use Rattle.agreement.proofs.Lockstep.{Shows}
use Rattle.agreement.proofs.Renewing.{AllOlder}
use Rattle.agreement.proofs.Splitting.{Also, SplitAs, SplitOne, rd_older}
use Rattle.agreement.proofs.SplittingBoth.{Nobody, SplitTwo, by_test_lem, both_one, g₁, g₂, l₁, left_test, off_ab, off_ba, older_b, one_reads, q₁, q₂}

module _ {es : List Edge} (pr : Proper es) {degrees sides ends labels : List ℕ} {m : Marks} (sh : Shows es degrees sides ends m.lows) (k : SplitAs es Nobody sides labels m)
    (blocks a b : ℕ) (ca : degree es a ≡ 2) (cb : degree es b ≡ 2) (ab : a ≢ b) (few : blocks + 1 < most16) (room : 8192 * (blocks + 2) + length es < most32)
    (long : length labels ≤ most16) where
  -- ---- not on one ring
  module _ (o : on_one_ring es a b ≡ false) where
    abbrev after_first : Changed
    after_first = g₁ pr sh k blocks a b ca cb ab few room long o

    abbrev after_second : Changed
    after_second = g₂ pr sh k blocks a b ca cb ab few room long o

    abbrev first_said : Labelling
    first_said = l₁ pr sh k blocks a b ca cb ab few room long o

    first_split : SplitOne es Nobody labels labels a blocks after_first first_said
    first_split = q₁ pr sh k blocks a b ca cb ab few room long o

    second_split : SplitOne es (Also a Nobody) labels after_first.labels b first_said.blocks after_second (split_or_tap es first_said.blocks b first_said.marks)
    second_split = q₂ pr sh k blocks a b ca cb ab few room long o

    adds : relabel_count labels after_second.labels ≡ after_first.relabellings + after_second.relabellings
    adds = omega (arith, first_split.counts, second_split.counts, relabel_count_same labels)

    sum_is : sum32 after_first.relabellings after_second.relabellings ≡ after_first.relabellings + after_second.relabellings
    sum_is = sum32_is after_first.relabellings after_second.relabellings (omega (arith, adds, relabelled_most labels after_second.labels))

    both_apart : SplitTwo es labels a b (split_both_in degrees sides ends labels blocks a b (length es)) (split_two es blocks a b m)
    unfolding split_both_in split_two
    both_apart =
        rw (by_test_lem pr sh a b ca (off_ab pr sh k blocks a b ca cb ab few room long o), by_test_lem pr sh b a cb (off_ba pr sh k blocks a b ca cb ab few room long o), left_test (vertex_on_ring es b) (length (once_round es (lower_numbered es b) b)), first_split.blocks_are, o)
        (record { holds = second_split.holds; blocks_are = second_split.blocks_are; counts = adds ∙ sym sum_is })

    apart_reads : AllOlder es labels (base (blocks + 1))
        → split_count_in Both degrees sides ends a b (length es) true ≡ (split_both_in degrees sides ends labels blocks a b (length es)).relabellings
    unfolding split_both_in split_count_in
    apart_reads h =
        rw (by_test_lem pr sh a b ca (off_ab pr sh k blocks a b ca cb ab few room long o), by_test_lem pr sh b a cb (off_ba pr sh k blocks a b ca cb ab few room long o), left_test (vertex_on_ring es b) (length (once_round es (lower_numbered es b) b)), first_split.blocks_are)
        (ap₂ {C = ℕ} (λ (n p : ℕ). n + p) (first_split.reads (λ t. rd_older pr sh a ca t labels (base (blocks + 1)) h)) (second_split.reads (older_b pr sh k blocks a b ca cb ab few room long o h)) ∙ sym sum_is)

  -- ---- both ends

  -- both ends: the tables are left with what `split_two` says
  pub splits_both : SplitTwo es labels a b (split_both_in degrees sides ends labels blocks a b (length es)) (split_two es blocks a b m)
  splits_both = go (true_or_false (on_one_ring es a b))
    where
      go : (on_one_ring es a b ≡ true) ⊎ (on_one_ring es a b ≡ false) → SplitTwo es labels a b (split_both_in degrees sides ends labels blocks a b (length es)) (split_two es blocks a b m)
      go (inl t) = both_one pr sh k blocks a b ca cb ab few room long t
      go (inr t) = both_apart t

  -- the count that is read before is the count of what both splits relabel
  pub both_reads : AllOlder es labels (base (blocks + 1))
      → split_count_in Both degrees sides ends a b (length es) true ≡ (split_both_in degrees sides ends labels blocks a b (length es)).relabellings
  both_reads h = go (true_or_false (on_one_ring es a b))
    where
      go : (on_one_ring es a b ≡ true) ⊎ (on_one_ring es a b ≡ false)
          → split_count_in Both degrees sides ends a b (length es) true ≡ (split_both_in degrees sides ends labels blocks a b (length es)).relabellings
      go (inl t) = one_reads pr sh k blocks a b ca cb ab few room long t h
      go (inr t) = apart_reads t h
