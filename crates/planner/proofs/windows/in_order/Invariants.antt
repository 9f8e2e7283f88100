use Rattle.std.proofs.Common.{◌≡◌}
use Rattle.std.specs.Slice.Iter.{chunks_rest, chunks_size}
use Rattle.planner.specs.Windows.{windows_in, ordered}
use Rattle.planner.proofs.windows.in_order.Given as goal

abbrev pub invariant-loop-window : goal.invariant-loop-window
invariant-loop-window l =
    record {
      in_pairs : chunks_size l.window-iterator ≡ 2;
      rest_decides : ordered l.previous (windows_in (chunks_rest l.window-iterator)) ≡ ordered 0 (windows_in l.windows);
    }
