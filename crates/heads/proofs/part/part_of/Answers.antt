use mathlib.Core.Path.{◌≡◌}
use Prim.Native.Nat.{◌+◌, ◌*◌, ◌-◌}
use native.Mathlib.Omega.{arith}
use Rattle.nursery.specs.Nursery.{part, tables_in}
use Rattle.heads.proofs.part.part_of.Goals as goal

pub returns : goal.returns
unfolding tables_in part
returns c =
    let one : 4096 * c.args.h + 4096 - 4096 * c.args.h ≡ 4096 = omega arith in
    let two : 8192 * c.args.h + 8192 - 8192 * c.args.h ≡ 8192 = omega arith in
    rw (one, two)
