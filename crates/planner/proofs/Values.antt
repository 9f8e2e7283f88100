-- The worked examples, computed from the definitions.
use mathlib.Core.Path.{refl}
use Rattle.planner.specs.Windows.{windows_in, follows, ordered}
use Rattle.planner.specs.Planning.{transit, inside, inside_one, possible_at, first_of, earliest, out_of_bounds, plan}
use Rattle.planner.specs.Values.{planned, two, Table}

pub values : Table
unfolding windows_in follows ordered transit inside inside_one possible_at first_of earliest out_of_bounds plan planned two
values =
    record {
      whole = refl;
      rounded = refl;
      short = refl;
      waits = refl;
      last = refl;
      later = refl;
      next_week = refl;
      just = refl;
      too_long = refl;
      touching = refl;
      midnight = refl;
      whole_week = refl;
      not_known = refl;
      not_known_34 = refl;
      not_known_35 = refl;
      flow_most = refl;
      flow_more = refl;
      minute_most = refl;
      minute_more = refl;
      windows_33 = refl;
      windows_32 = refl;
      empty = refl;
      past_week = refl;
      overlap = refl;
      odd = refl;
    }
