-- Functions that mirror the code. One record more: on a window that arrivals leave it is `with_record`.
use Rattle.std.specs.Prelude.{ℕ, ◌-◌, not, get_or, set, if◌then◌else◌}
use Rattle.std.proofs.Math.Option.{Option, none, some}
use Rattle.tables.specs.Steps.{sum32}
use Rattle.valve.specs.Window.{Record, Window, window, after, sizes_fit, held}

-- the refusal that both calls look for first
unfoldable pub gate : Window → Option ℕ
gate w = if not (sizes_fit w.recipes w.amounts) then some 25 else if not (held w) then some 21 else none

-- the sum loses the oldest record, which stands in the next slot, and gains the new one
unfoldable pub put_in : Record → Window → Window
put_in r w =
    window (set w.recipes w.next r.recipe) (set w.amounts w.next r.amount) (after w.next)
    (sum32 (w.sum - get_or w.amounts w.next 0) r.amount)
