use Rattle.heads.specs.Meaning.{as_removals}
use Rattle.taking.proofs.CountLaws.{count_on}
use lib.Seq.{set-get_or}
use mathlib.Core.Path.{refl, sym}
use Rattle.taking.proofs.house.count_removal.Goals as goal

pub returns-in-Ok : goal.returns-in-Ok
returns-in-Ok c =
    (c.with_removals.ensures.0, rw c.in-Ok.is (count_on (as_removals c.args.heads) _ c.args.h _ _ c.removals_of.ensures c.one_more32.ensures c.with_removals.ensures.1))

pub returns-in-Err : goal.returns-in-Err
returns-in-Err c = (refl, rw c.in-Err.is (sym (set-get_or _ _ 0)))
