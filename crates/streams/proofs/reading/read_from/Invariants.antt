use Rattle.std.specs.Prelude.{◌≡◌, ◌-◌, ◌≤◌, length, take}
use Rattle.std.specs.Io.KnownBytes.{Consumes}
use Rattle.streams.proofs.reading.read_from.Given as goal

-- what was read stands in the slice, whose length no read changes
abbrev pub invariant-loop-done : goal.invariant-loop-done
invariant-loop-done g l = record {
  within : l.done ≤ length l.list;
  same_length : length l.list ≡ length l.initial.list;
  taken : Consumes (g.R.Read.remaining l.initial.source) (g.R.Read.remaining l.source) (take l.done l.list);
}

-- the room that is left
abbrev pub decreases-loop-done : goal.decreases-loop-done
decreases-loop-done g l = length l.initial.list - l.done
