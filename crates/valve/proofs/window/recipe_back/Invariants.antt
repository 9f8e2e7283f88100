use Rattle.valve.specs.Valve.{at_valve}
use Rattle.valve.specs.Window.{newest}
use Rattle.valve.specs.Numbers.{slots}
use Prim.Native.Nat.{◌-◌}
use mathlib.Core.Path.{◌≡◌}
use Rattle.valve.proofs.window.recipe_back.Given as goal

abbrev pub invariant-loop : goal.invariant-loop
invariant-loop l =
    at_valve l.rest (newest l.recipes l.amounts (slots - l.counter) l.slot) ≡ at_valve l.volume (newest l.recipes l.amounts slots l.fn.next.0)
