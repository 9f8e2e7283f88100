use Rattle.std.proofs.Common.{◌≡◌}
use Rattle.std.specs.Slice.Iter.{chunks_rest, chunks_size}
use Rattle.planner.specs.Windows.{windows_in}
use Rattle.planner.specs.Weeks.{first_in}
use Rattle.planner.proofs.windows.first_in.Given as goal

abbrev pub invariant-loop-window : goal.invariant-loop-window
invariant-loop-window l =
    record {
      in_pairs : chunks_size l.window-iterator ≡ 2;
      rest_decides : first_in l.minutes l.from (windows_in (chunks_rest l.window-iterator)) ≡ first_in l.minutes l.from (windows_in l.windows);
    }
