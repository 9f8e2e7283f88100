-- The values of specs/Values, computed from the definitions.
use mathlib.Core.Path.{refl}
use Rattle.nursery.specs.Nursery.{edges_in, house_in, limit_in, no_houses, part, put_in, put_part, put_tables, register_in, removals_in, stored_in, tables_in, vertices_in}
use Rattle.nursery.specs.Calls.{all_fit, any_damaged, barred, does, is_own, lent_slice, not_grown, nursery_fits, scratch_after, own_slice, step}
use Rattle.nursery.specs.Values.{Barred, Licences, Removals, eight, house_of, one_damaged, opened_at, regrown, removing, split_first}
use Rattle.nursery.proofs.Computing.{settling}

pub licences : Licences
unfolding settling eight
licences =
    record {
      just_full = refl;
      share_passes = refl;
      pipes_pass = refl;
      own_as_empty = refl;
      landing_counts_own = refl;
      for_the_rest = refl;
      limit = refl;
      may_96th = refl;
      not_97th = refl;
      below_share = refl;
      at_share = refl;
      kept_for_others = refl;
      no_shares = refl;
    }

pub bars : Barred
unfolding settling eight one_damaged regrown part put_part tables_in put_tables stored_in removals_in register_in edges_in vertices_in limit_in house_in put_in no_houses nursery_fits all_fit is_own any_damaged not_grown barred own_slice lent_slice does scratch_after step
bars =
    record {
      own_damaged = refl;
      other_damaged = refl;
      no_house = refl;
      grow_refused = refl;
      nothing_cleared = refl;
      grow_own = refl;
      own_tags = refl;
      next_tags = refl;
      own_count = refl;
    }

pub removals : Removals
unfolding settling house_of opened_at removing split_first
removals =
    record {
      report = refl;
      reported_three = refl;
      head = refl;
      rows = refl;
      moved_names = refl;
      later_move = refl;
      one_birth = refl;
      counted = refl;
      too_short = refl;
      nothing_differs = refl;
      total_before = refl;
      total_after = refl;
      no_such_pipe = refl;
      last_removal = refl;
      no_more_removals = refl;
      largest_before_short = refl;
      short_below_largest = refl;
      same_count = refl;
      other_count = refl;
      lower_count = refl;
      grow_clears = refl;
      land_keeps = refl;
    }
