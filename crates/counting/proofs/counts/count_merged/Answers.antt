use Rattle.counting.specs.Counting.{estimated}
use Prim.Native.Nat.{ℕ}
use mathlib.Core.Path.{ap}
use Rattle.counting.proofs.counts.count_merged.Goals as goal

pub returns : goal.returns
returns c =
    ap (λ (k : ℕ). estimated c.args.merger.ring k) c.count_kept-count.ensures
