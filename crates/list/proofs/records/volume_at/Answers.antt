use Rattle.list.proofs.RecordLaws.{body_known, volume_known, volume_plain}
use native.Mathlib.Omega.{arith}
use borrow.Author.Rules.{rules}
use Rattle.list.proofs.records.volume_at.Goals as goal

pub overflow_add-i : goal.overflow_add-i
overflow_add-i c = search (rules, body_known _ c.if-version-eq-WITH_VOLUMES.true)

pub u32_at-requires : goal.u32_at-requires
u32_at-requires c = omega (arith, c.requires, body_known _ c.if-version-eq-WITH_VOLUMES.true)

pub returns-then-version-eq-WITH_VOLUMES : goal.returns-then-version-eq-WITH_VOLUMES
returns-then-version-eq-WITH_VOLUMES c = volume_known _ _ _ _ c.if-version-eq-WITH_VOLUMES.true c.u32_at.ensures

pub returns : goal.returns
returns c = volume_plain _ _ c.if-version-eq-WITH_VOLUMES.false
