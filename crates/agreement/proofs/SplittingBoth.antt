-- The split of one end, whose other end is singular, and of both ends; and the count that is read before.
use mathlib.Core.Path.{◌≡◌, refl, sym, ◌∙◌, subst}
use mathlib.Core.Logic.{◌≢◌, ◌⊎◌, inl, inr}
use Prim.Native.Nat.{ℕ, ◌+◌, ◌*◌, ◌≤◌, ◌<◌}
use native.Mathlib.Omega.{arith}
use mathlib.Core.Bool.{Bool, true, false}
use mathlib.Core.List.{List}
use lib.ListN.{length, get_or, set, length-set}
use Rattle.model.specs.Basics.{max_vertices}
use Rattle.model.specs.Graph.{Edge, Pass, degree, lower_numbered, once_round}
use Rattle.model.specs.Labels.{Labelling, Marks, base, label_path, on_one_ring, passes, relabel_count, vertex_on_ring, split, split_or_tap, split_two, tap}
use Rattle.tables.specs.Steps.{most16, most32, sum32}
use Rattle.tables.specs.Rounds.{back_in, ring_in}
use Rattle.tables.specs.declared.rings.Round.TheVariants.{Shared}
use Rattle.tables.proofs.Sums.{more16_is, sum32_is}
use Rattle.labels.specs.Labelling.{MarksIn, marks_in}
use Rattle.labels.specs.Changes.{Changed}
use Rattle.parting.specs.Splitting.{bare_in, left_for, split_both_in, split_by, split_in, tap_in}
use Rattle.parting.specs.declared.splitting.Splits.TheVariants.{Both}
use Rattle.counting.specs.Counting.{split_count_in}
use Rattle.model.proofs.Basics.Booleans.{and_true, true_or_false}
use Rattle.theory.proofs.Labels.Relabellings.{moved_new, relabel_count_same}
use Rattle.model.proofs.Walks.Degree.{Proper, is_two}
use Rattle.model.proofs.Walks.Turn.{Between}
use Rattle.model.proofs.Walks.Places.{Ith, InPath, Off}
use Rattle.agreement.proofs.Relabelled.{relabelled_most, relabelled_set}
use Rattle.agreement.proofs.Lockstep.{Shows}
use Rattle.agreement.proofs.Passes.{between_ith}
use Rattle.agreement.proofs.Laying.{lay_counts, lay_off, lay_in}
use Rattle.agreement.proofs.Clearing.{lay_over, lay_sides, swap_count}
use Rattle.agreement.proofs.Renewing.{AllOlder, Older, lay_renews_less}
use Rattle.agreement.proofs.Ringing.{ring_no, ring_yes}
use Rattle.agreement.proofs.Meeting.{meets_back, not_passed, passed, passes_in_lem, passes_off, ring_too, shares}
use Rattle.agreement.proofs.Splitting.{Also, SplitAs, SplitOne, bared_as, below_v, by_test, laid_as, lay_long, rd_between, rd_off, rd_older, rd_once, splits_one, tap_lays}

-- ---- the answer of the ring test

module _ {es : List Edge} (pr : Proper es) {degrees sides ends lows : List ℕ} (sh : Shows es degrees sides ends lows) (v w : ℕ) (two : degree es v ≡ 2) where
  -- where w is not on the ring of v, the test finds that ring and how many others lie on it, or that there is none
  pub by_test_lem : (vertex_on_ring es v ≡ true → Off (once_round es (lower_numbered es v) v) w)
      → ring_in degrees sides ends v w (length es) ≡ by_test (vertex_on_ring es v) (length (once_round es (lower_numbered es v) v))
  unfolding back_in
  by_test_lem off = go (true_or_false (vertex_on_ring es v))
    where
      go : (vertex_on_ring es v ≡ true) ⊎ (vertex_on_ring es v ≡ false) → ring_in degrees sides ends v w (length es) ≡ by_test (vertex_on_ring es v) (length (once_round es (lower_numbered es v) v))
      go (inl t) = ring_yes pr sh v w two t ∙ rw (t, passes_off w (once_round es (lower_numbered es v) v) (off t))
      go (inr t) = ring_no pr sh v w two t ∙ rw t

  pub by_shared : vertex_on_ring es v ≡ true → InPath (once_round es (lower_numbered es v) v) w → ring_in degrees sides ends v w (length es) ≡ Shared (length (once_round es (lower_numbered es v) v))
  unfolding back_in
  by_shared t f = ring_yes pr sh v w two t ∙ rw (passes_in_lem w (once_round es (lower_numbered es v) v) f)

  -- a singular vertex lies on no ring
  pub singular_off : (degree es w ≡ 2 → ⊥) → vertex_on_ring es v ≡ true → Off (once_round es (lower_numbered es v) v) w
  singular_off n t i s j e =
      let b : Between es s.at s.before s.after = between_ith (once_round es (lower_numbered es v) v) (rd_between pr sh v two t) i s j in
      n (subst (λ (u : ℕ). degree es u ≡ 2) e (is_two es s.at b.regular))

-- no vertex
abbrev pub Nobody : ℕ → Type 0
Nobody v = ⊥

-- tables that show the edges and marks
pub whole_as : {es : List Edge} {degrees sides ends labels : List ℕ} {m : Marks} → Shows es degrees sides ends m.lows → labels ≡ m.labels
    → length sides ≡ 2 * max_vertices → length m.lows ≡ max_vertices → SplitAs es Nobody sides labels m
whole_as sh e ls ll = record { kept = record { labels_are = e; links = λ v b n. sh.links v b; sides_long = ls; lows_long = ll }; off = λ v b s. absurd s }

-- ---- one end

module _ {es : List Edge} (pr : Proper es) {degrees sides ends labels : List ℕ} {m : Marks} (sh : Shows es degrees sides ends m.lows) (k : SplitAs es Nobody sides labels m)
    (blocks : ℕ) where
  -- one end: the tables are left with what `split_or_tap` says
  pub splits_single : (v w : ℕ) → degree es v ≡ 2 → degree es w ≢ 2 → blocks < most16 → base (blocks + 1) + length es < most32
      → SplitOne es Nobody labels labels v blocks (split_in degrees sides ends labels blocks v w (length es)) (split_or_tap es blocks v m)
  unfolding split_in
  splits_single v w two sw few room =
      rw (by_test_lem pr sh v w two (singular_off pr sh v w two sw))
      (splits_one pr sh v w two Nobody labels sides labels m blocks k (λ s. s) refl refl few room (λ t u s. absurd s) (λ t i s j. refl))

-- ---- both ends

-- what the split of both ends leaves
pub record SplitTwo (es : List Edge) (ts : List ℕ) (a b : ℕ) (g : Changed) (l : Labelling) : Type 0 where
  pub holds : SplitAs es (Also b (Also a Nobody)) g.sides g.labels l.marks
  pub blocks_are : g.blocks ≡ l.blocks
  pub counts : relabel_count ts g.labels ≡ g.relabellings

pub left_test : (t : Bool) (n : ℕ) → left_for (by_test t n) ≡ by_test t n
unfolding left_for
left_test true n = refl
left_test false n = refl

module _ {es : List Edge} (pr : Proper es) {degrees sides ends labels : List ℕ} {m : Marks} (sh : Shows es degrees sides ends m.lows) (k : SplitAs es Nobody sides labels m)
    (blocks a b : ℕ) (ca : degree es a ≡ 2) (cb : degree es b ≡ 2) (ab : a ≢ b) (few : blocks + 1 < most16) (room : 8192 * (blocks + 2) + length es < most32)
    (long : length labels ≤ most16) where
  abbrev pub rda : List Pass
  rda = once_round es (lower_numbered es a) a

  abbrev pub rdb : List Pass
  rdb = once_round es (lower_numbered es b) b

  ba : b ≢ a
  ba e = ab (sym e)

  base_small : (n : ℕ) → n ≤ blocks + 1 → base (n + 1) + length es < most32
  unfolding base
  base_small n l = omega (arith, room)

  -- ---- not on one ring
  module _ (o : on_one_ring es a b ≡ false) where
    pub off_ab : vertex_on_ring es a ≡ true → Off rda b
    unfolding on_one_ring
    off_ab t = not_passed b rda (rw t at o)

    no_ab : vertex_on_ring es a ≡ true → InPath rda b → ⊥
    no_ab t f = off_ab t f.index f.pass_is f.ith f.at_is

    pub off_ba : vertex_on_ring es b ≡ true → Off rdb a
    off_ba t i s j e =
        let f : InPath rdb a = record { index = i; pass_is = s; ith = j; at_is = e } in
        let ra : vertex_on_ring es a ≡ true = ring_too es pr b a cb ca ba t f in
        no_ab ra (meets_back es pr a b ca cb ab ra t f)

    off_each : vertex_on_ring es b ≡ true → vertex_on_ring es a ≡ true → (z : ℕ) → InPath rdb z → Off rda z
    off_each tb ta z f i s j e = no_ab ta (shares es pr a b ca cb ab ta tb z (record { index = i; pass_is = s; ith = j; at_is = e }) f)

    abbrev pub l₁ : Labelling
    l₁ = split_or_tap es blocks a m

    abbrev pub g₁ : Changed
    g₁ = split_by (by_test (vertex_on_ring es a) (length rda)) degrees sides ends labels blocks a b

    pub q₁ : SplitOne es Nobody labels labels a blocks g₁ l₁
    q₁ = splits_one pr sh a b ca Nobody labels sides labels m blocks k (λ s. s) refl refl (omega arith) (base_small blocks (omega arith)) (λ t u s. absurd s) (λ t i s j. refl)

    -- the round of b is as it was
    on_same : vertex_on_ring es b ≡ true → (i : ℕ) (s : Pass) → Ith s i rdb → get_or g₁.labels s.at 0 ≡ get_or labels s.at 0
    on_same t i s j = q₁.same s.at (off_ba t i s j) (λ ta. off_each t ta s.at (record { index = i; pass_is = s; ith = j; at_is = refl }))

    abbrev pub g₂ : Changed
    g₂ = split_by (by_test (vertex_on_ring es b) (length rdb)) degrees g₁.sides ends g₁.labels l₁.blocks b a

    pub q₂ : SplitOne es (Also a Nobody) labels g₁.labels b l₁.blocks g₂ (split_or_tap es l₁.blocks b l₁.marks)
    q₂ =
        splits_one pr sh b a cb (Also a Nobody) labels g₁.sides g₁.labels l₁.marks l₁.blocks q₁.holds not_a (sym q₁.long) (q₁.same b ba off_ab)
        (omega (arith, q₁.blocks_few)) (base_small l₁.blocks q₁.blocks_few) off_a on_same
      where
        not_a : (b ≡ a) ⊎ ⊥ → ⊥
        not_a (inl e) = ba e
        not_a (inr s) = s

        off_a : vertex_on_ring es b ≡ true → (u : ℕ) → (u ≡ a) ⊎ ⊥ → Off rdb u
        off_a t u (inl e) = rw e (off_ba t)
        off_a t u (inr s) = absurd s

    pub older_b : AllOlder es labels (base (blocks + 1)) → vertex_on_ring es b ≡ true → Older g₁.labels (base (l₁.blocks + 1)) rdb
    unfolding base
    older_b h t i s j =
        let p = rd_older pr sh b cb t labels (base (blocks + 1)) h i s j in
        (omega (arith, on_same t i s j, p.0), omega (arith, on_same t i s j, p.1, q₁.blocks_more))

  -- ---- on one ring
  module _ (o : on_one_ring es a b ≡ true) where
    both : (vertex_on_ring es a ≡ true) × (passes b rda ≡ true)
    unfolding on_one_ring
    both = and_true (vertex_on_ring es a) (passes b rda) o

    ra : vertex_on_ring es a ≡ true
    ra = both.0

    on_a : InPath rda b
    on_a = passed b rda both.1

    rb : vertex_on_ring es b ≡ true
    rb = ring_too es pr a b ca cb ab ra on_a

    on_b : InPath rdb a
    on_b = meets_back es pr b a cb ca ba rb ra on_a

    -- the labels without that of b, and those laid over them
    abbrev us : List ℕ
    us = set labels b 0

    abbrev laid : MarksIn
    laid = lay_in true (base (blocks + 1)) rda sides us

    abbrev plain : MarksIn
    plain = lay_in true (base (blocks + 1)) rda sides labels

    tapped : tap_in degrees sides ends us a (blocks + 1) (length rda) ≡ marks_in (bare_in laid.sides laid.labels a).sides (bare_in laid.sides laid.labels a).labels laid.count
    tapped = tap_lays pr sh a ca ra Nobody sides m.lows us (blocks + 1) k.kept.links (λ s. s) (λ u s. absurd s) (base_small blocks (omega arith))

    same_sides : laid.sides ≡ plain.sides
    same_sides = lay_sides true (base (blocks + 1)) rda sides us labels

    same_labels : laid.labels ≡ plain.labels
    same_labels = lay_over true (base (blocks + 1)) rda sides labels b 0 on_a

    held : SplitAs es (Also b (Also a Nobody)) (bare_in (bare_in laid.sides laid.labels a).sides (bare_in laid.sides laid.labels a).labels b).sides
        (bare_in (bare_in laid.sides laid.labels a).sides (bare_in laid.sides laid.labels a).labels b).labels
        (split b (split a (label_path true (base (blocks + 1)) rda m)))
    held =
        rw (same_sides, same_labels)
        (bared_as es (Also a Nobody) (bare_in plain.sides plain.labels a).sides (bare_in plain.sides plain.labels a).labels (split a (label_path true (base (blocks + 1)) rda m)) b (below_v pr sh b cb)
        (bared_as es Nobody plain.sides plain.labels (label_path true (base (blocks + 1)) rda m) a (below_v pr sh a ca)
        (laid_as es sh.below Nobody sides labels m (base (blocks + 1)) rda (rd_between pr sh a ca ra) (λ v s. absurd s) k)))

    laid_long : length us ≡ length laid.labels
    laid_long = sym (lay_long true (base (blocks + 1)) rda sides us)

    counted : relabel_count labels (set (set laid.labels a 0) b 0) ≡ laid.count
    counted =
        let off = (lay_off true (base (blocks + 1)) rda sides us a (rd_off pr sh a ca ra)).1 in
        let ll : length labels ≡ length (set laid.labels a 0) = sym (length-set labels b 0) ∙ laid_long ∙ sym (length-set laid.labels a 0) in
        omega (
          arith,
          swap_count labels (set laid.labels a 0) b ll,
          relabelled_set us laid.labels a 0 laid_long off,
          moved_new (get_or laid.labels a 0),
          lay_counts us true (base (blocks + 1)) rda sides us refl (rd_once pr sh a ca ra) (λ i s j. refl),
          relabel_count_same us,
        )

    count_most : laid.count ≤ most16
    count_most = omega (arith, counted, relabelled_most labels (set (set laid.labels a 0) b 0))

    last : relabel_count labels (bare_in (bare_in laid.sides laid.labels a).sides (bare_in laid.sides laid.labels a).labels b).labels ≡ sum32 laid.count 0
    unfolding bare_in
    last =
        let z : laid.count ≡ laid.count + 0 = omega arith in
        counted ∙ z ∙ sym (sum32_is laid.count 0 (omega (arith, count_most)))

    pub both_one : SplitTwo es labels a b (split_both_in degrees sides ends labels blocks a b (length es)) (split_two es blocks a b m)
    unfolding split_both_in split_two split_or_tap tap left_for
    both_one =
        rw (by_shared pr sh a b ca ra on_a, by_shared pr sh b a cb rb on_b, more16_is blocks (omega arith), tapped, o, ra)
        (record { holds = held; blocks_are = refl; counts = last })

    pub one_reads : AllOlder es labels (base (blocks + 1))
        → split_count_in Both degrees sides ends a b (length es) true ≡ (split_both_in degrees sides ends labels blocks a b (length es)).relabellings
    unfolding split_both_in split_count_in left_for
    one_reads h =
        let less = lay_renews_less (base (blocks + 1)) rda sides labels b (rd_once pr sh a ca ra) (rd_older pr sh a ca ra labels (base (blocks + 1)) h) on_a in
        rw (by_shared pr sh a b ca ra on_a, by_shared pr sh b a cb rb on_b, more16_is blocks (omega arith), tapped)
        (omega (arith, less, sum32_is laid.count 0 (omega (arith, count_most))))
