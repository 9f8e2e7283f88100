-- Demand 3 of six series: what its claim comes to where lists stop, calls are refused and the register is cleared in between; where a ring is
-- closed and tapped; where one stands at the end; where pipes are committed; where houses share a licence and pipes are taken out; and that its
-- bound needs both factors.
use mathlib.Core.Path.{◌≡◌, refl, ap, ◌∙◌, subst}
use Prim.Native.Nat.{ℕ, ◌*◌, ◌≤◌}
use native.Mathlib.Omega.{arith}
use mathlib.Core.List.{List, [], ◌∷◌}
use mathlib.Core.Option.{some}
use lib.ListN.{length, get_or, take}
use Rattle.model.specs.Basics.{floor_log, sum, row_size}
use Rattle.model.specs.Distance.{joined, not_joined}
use Rattle.model.specs.Queries.{Reply, found, measured, refuses, sheet}
use Rattle.model.specs.Tables.{cleared, edge_lengths, held}
use Rattle.model.specs.Calls.{sheeting}
use Rattle.model.specs.Series.{landed_edges, length_column, relabelled_by}
use Rattle.theory.proofs.Registers.Kept.{cleared_fits}
use Rattle.nursery.specs.Nursery.{Nursery, no_houses, removals_in, stored_in}
use Rattle.nursery.specs.Calls.{HouseCall, brings_eight, commits, finds, finds_at, in_house, measures, out_of_place}
use Rattle.nursery.specs.Series.{AtEnd, Demand3, Made, SeriesEnds, Site, after, after_call, answered, asked_of, empty_site, made_fits, makes, removals_at, reply_to, series, since}
use Rattle.nursery.proofs.Computed.{answers, called, calls, commitments, committing, counted, fifth_quote, left, pairs, pairwise, ringed, rings, settled, shared, shared_replies, shares, standing, stands}
use Rattle.nursery.proofs.State.{Holds, Sound, holds_empty, sound_empty}
use Rattle.nursery.proofs.Kept.{call_does}
use Rattle.nursery.proofs.Whole.{demand3}

ends : (ms : List Made) → SeriesEnds ms
unfolding Demand3
ends ms = demand3 ms

-- house 2 at the end of a series
abbrev end : List Made → Nursery
end ms = series ms no_houses

pub at_end : (ms : List Made) → AtEnd 2 (series ms no_houses) (after ms empty_site) (since 2 ms empty_site [])
at_end ms = (ends ms).each_house 2 (omega arith)

-- a call more for it, with cleared scratch
abbrev asked : List Made → HouseCall → Reply
asked ms c = (makes (record { call = in_house 2 c; scratch = cleared }) (end ms)).reply

asked_is : (ms : List Made) (c : HouseCall) → asked ms c ≡ answers ms c
unfolding reply_to made_fits brings_eight out_of_place answered answers
asked_is ms c = (ends ms).all_houses.answers (record { call = in_house 2 c; scratch = cleared }) ∙ rw cleared_fits

abbrev total_in : List Made → ℕ
total_in ms = (stored_in 2 (end ms)).counts.relabellings

-- the total, its bound and the sum of a sheet's lengths, where n edges are accepted of `len` mm, and the sheet has k rows
total_at : (ms : List Made) (n : ℕ) → relabelled_by (counted ms) ≡ n → total_in ms ≡ n
unfolding counted
total_at ms n e = (at_end ms).total ∙ e

bound_at : (ms : List Made) (n : ℕ) → length (counted ms) ≡ n → 1 ≤ n → total_in ms ≤ n * floor_log n
unfolding counted
bound_at ms n e h = subst (λ (i : ℕ). total_in ms ≤ i * floor_log i) e ((at_end ms).bound (omega (arith, e)))

lengths_at : (ms : List Made) (k len : ℕ) → length (sheet (left ms)) ≡ k → sum (edge_lengths (landed_edges (counted ms))) ≡ len
    → (slice : List ℕ) → row_size * k ≤ length slice → sum (length_column (take (row_size * k) (asked_of 2 cleared (end ms) (sheeting slice)).slice)) ≡ len
unfolding counted left
lengths_at ms k len e t slice h =
    subst (λ (i : ℕ). sum (length_column (take (row_size * i) (asked_of 2 cleared (end ms) (sheeting slice)).slice)) ≡ len) e
    ((((at_end ms).compared cleared cleared_fits).lengths slice (omega (arith, e))).adds_up ∙ t)

-- ---- lists that stop, refused calls, clearings in between

pub record Shown : Type 0 where
  pub holds : held (stored_in 2 (end calls)) ≡ some (left calls)
  pub total : total_in calls ≡ 1
  pub bound : total_in calls ≤ 7 * floor_log 7
  pub lengths : (slice : List ℕ) → 12 ≤ length slice → sum (length_column (take 12 (asked_of 2 cleared (end calls) (sheeting slice)).slice)) ≡ 5500
  pub find_8195 : asked calls (finds 8195) ≡ found 2 4 500 1700
  pub find_at_4 : asked calls (finds_at 4) ≡ found 2 4 500 1700
  pub distance : asked calls (measures 0 6) ≡ measured (joined 4200)

pub shown : Shown
unfolding left
shown =
    record {
      holds = (at_end calls).holds;
      total = total_at calls 1 called.relabelled;
      bound = bound_at calls 7 called.accepted (omega arith);
      lengths = lengths_at calls 2 5500 called.chains called.lengths;
      find_8195 = asked_is calls (finds 8195) ∙ called.find_8195;
      find_at_4 = asked_is calls (finds_at 4) ∙ called.find_at_4;
      distance = asked_is calls (measures 0 6) ∙ called.distance;
    }

-- ---- a ring, and a tap of it

pub record ShownTapped : Type 0 where
  pub total : total_in ringed ≡ 2
  pub bound : total_in ringed ≤ 4 * floor_log 4
  pub lengths : (slice : List ℕ) → 12 ≤ length slice → sum (length_column (take 12 (asked_of 2 cleared (end ringed) (sheeting slice)).slice)) ≡ 15
  pub find : asked ringed (finds 16385) ≡ found 0 2 5 2
  pub distance : asked ringed (measures 0 3) ≡ measured (joined 9)

pub shown_tapped : ShownTapped
shown_tapped =
    record {
      total = total_at ringed 2 rings.relabelled;
      bound = bound_at ringed 4 rings.accepted (omega arith);
      lengths = lengths_at ringed 2 15 rings.chains rings.lengths;
      find = asked_is ringed (finds 16385) ∙ rings.find;
      distance = asked_is ringed (measures 0 3) ∙ rings.distance;
    }

-- ---- a ring that stands

pub record ShownStanding : Type 0 where
  pub total : total_in standing ≡ 0
  pub bound : total_in standing ≤ 4 * floor_log 4
  pub lengths : (slice : List ℕ) → 12 ≤ length slice → sum (length_column (take 12 (asked_of 2 cleared (end standing) (sheeting slice)).slice)) ≡ 18
  pub find_lowest : asked standing (finds 8191) ≡ found 0 0 0 11
  pub find_highest : asked standing (finds 8193) ≡ found 0 2 0 11
  pub find_at : asked standing (finds_at 1) ≡ found 0 1 0 11
  pub over_closing : asked standing (measures 0 2) ≡ measured (joined 1)
  pub to_chain : asked standing (measures 0 3) ≡ measured not_joined

pub shown_standing : ShownStanding
shown_standing =
    record {
      total = total_at standing 0 stands.relabelled;
      bound = bound_at standing 4 stands.accepted (omega arith);
      lengths = lengths_at standing 2 18 stands.chains stands.lengths;
      find_lowest = asked_is standing (finds 8191) ∙ stands.find_lowest;
      find_highest = asked_is standing (finds 8193) ∙ stands.find_highest;
      find_at = asked_is standing (finds_at 1) ∙ stands.find_at;
      over_closing = asked_is standing (measures 0 2) ∙ stands.over_closing;
      to_chain = asked_is standing (measures 0 3) ∙ stands.to_chain;
    }

-- ---- pipes that are committed count as accepted ones

pub record ShownCommitted : Type 0 where
  pub total : total_in committing ≡ 1
  pub bound : total_in committing ≤ 6 * floor_log 6
  pub lengths : (slice : List ℕ) → 18 ≤ length slice → sum (length_column (take 18 (asked_of 2 cleared (end committing) (sheeting slice)).slice)) ≡ 5400
  pub find_8195 : asked committing (finds 8195) ≡ found 2 4 500 700
  pub again : asked committing (commits fifth_quote) ≡ refuses 32

pub shown_committed : ShownCommitted
shown_committed =
    record {
      total = total_at committing 1 commitments.relabelled;
      bound = bound_at committing 6 commitments.accepted (omega arith);
      lengths = lengths_at committing 3 5400 commitments.chains commitments.lengths;
      find_8195 = asked_is committing (finds 8195) ∙ commitments.find_8195;
      again = asked_is committing (commits fifth_quote) ∙ commitments.again;
    }

-- ---- houses on one licence, and pipes taken out

-- what the calls of a series are answered over the tables
unfoldable pub replies : List Made → Nursery → List Reply
replies [] n = []
replies (m ∷ ms) n = (makes m n).reply ∷ replies ms (makes m n).lent.nursery

replies_are : (ms : List Made) (n : Nursery) (s : Site) → Sound s → Holds n s → replies ms n ≡ settled ms s
unfolding replies settled
replies_are [] n s o k = refl
replies_are (m ∷ ms) n s o k =
    let d = call_does n s o k m in
    rw d.reply_is (ap (λ (rest : List Reply). reply_to m s ∷ rest) (replies_are ms (makes m n).lent.nursery (after_call m s) d.sound d.holds))

pub record ShownShared : Type 0 where
  pub answered_so : replies shared no_houses ≡ shared_replies
  pub total : total_in shared ≡ 1
  pub bound : total_in shared ≤ 6 * floor_log 6
  pub lengths : (slice : List ℕ) → 6 ≤ length slice → sum (length_column (take 6 (asked_of 2 cleared (end shared) (sheeting slice)).slice)) ≡ 5400
  pub find : asked shared (finds 16384) ≡ found 0 4 4700 700
  pub removals : removals_in 2 (end shared) ≡ 1

pub shown_shared : ShownShared
unfolding removals_at
shown_shared =
    record {
      answered_so = replies_are shared no_houses empty_site sound_empty holds_empty ∙ shares.replies;
      total = total_at shared 1 shares.relabelled;
      bound = bound_at shared 6 shares.accepted (omega arith);
      lengths = lengths_at shared 1 5400 shares.chains shares.lengths;
      find = asked_is shared (finds 16384) ∙ shares.find;
      removals = (at_end shared).removals ∙ ap (λ (xs : List ℕ). get_or xs 2 0) shares.removals;
    }

-- ---- neither factor of the bound can be left out

pub needs_logarithm : ((ms : List Made) → (stored_in 2 (series ms no_houses)).counts.relabellings ≤ length (since 2 ms empty_site [])) → ⊥
unfolding counted
needs_logarithm few = omega (arith, few pairwise, total_at pairwise 34 pairs.relabelled, pairs.accepted)

pub needs_edges : ((ms : List Made) → (stored_in 2 (series ms no_houses)).counts.relabellings ≤ floor_log (length (since 2 ms empty_site []))) → ⊥
unfolding counted
needs_edges few = omega (arith, few pairwise, total_at pairwise 34 pairs.relabelled, pairs.logarithm)
