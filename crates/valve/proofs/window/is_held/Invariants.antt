use Rattle.valve.specs.Window.{total, newest, records_of, all_within}
use Rattle.valve.specs.Answers.{as_window}
use Rattle.valve.specs.Numbers.{slots}
use Prim.Native.Nat.{◌+◌, ◌-◌, ◌*◌, ◌≤◌}
use mathlib.Core.Path.{◌≡◌}
use Rattle.valve.proofs.window.is_held.Given as goal

abbrev pub invariant-loop : goal.invariant-loop
invariant-loop l =
    (l.sum ≤ 1000000 * l.counter)
    × ((all_within (newest l.recipes l.amounts (slots - l.counter) l.slot) ≡ all_within (records_of (as_window l.recipes l.amounts l.head)))
    × (l.sum + total (newest l.recipes l.amounts (slots - l.counter) l.slot) ≡ total (records_of (as_window l.recipes l.amounts l.head))))
