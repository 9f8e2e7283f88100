use Rattle.list.proofs.HeaderLaws.{first_version, header_cut, header_good, header_mark, header_version, second_version}
use native.Mathlib.Omega.{arith}
use mathlib.Core.Path.{sym, ◌∙◌}
use Rattle.list.proofs.records.read_header.Goals as goal

pub returns-then-not-has_mark : goal.returns-then-not-has_mark
returns-then-not-has_mark c = header_mark _ (sym c.has_mark.ensures ∙ c.if-not-has_mark.true)

pub returns-then-list-lt-HEADER_SIZE : goal.returns-then-list-lt-HEADER_SIZE
returns-then-list-lt-HEADER_SIZE c = header_cut _ (sym c.has_mark.ensures ∙ c.if-not-has_mark.false) c.if-list-lt-HEADER_SIZE.true

pub returns-then-version-ne-WITH_VOLUMES : goal.returns-then-version-ne-WITH_VOLUMES
returns-then-version-ne-WITH_VOLUMES c =
    header_version _ _ c.u16_at-version.ensures (sym c.has_mark.ensures ∙ c.if-not-has_mark.false) (omega (arith, c.if-list-lt-HEADER_SIZE.false))
    c.if-version-ne-PLAIN.true c.if-version-ne-WITH_VOLUMES.true

pub returns-else-version-ne-WITH_VOLUMES : goal.returns-else-version-ne-WITH_VOLUMES
returns-else-version-ne-WITH_VOLUMES c =
    header_good _ _ c.u16_at-version.ensures (sym c.has_mark.ensures ∙ c.if-not-has_mark.false) (omega (arith, c.if-list-lt-HEADER_SIZE.false))
    (second_version _ c.if-version-ne-PLAIN.true c.if-version-ne-WITH_VOLUMES.false)

pub returns-else-version-ne-PLAIN : goal.returns-else-version-ne-PLAIN
returns-else-version-ne-PLAIN c =
    header_good _ _ c.u16_at-version.ensures (sym c.has_mark.ensures ∙ c.if-not-has_mark.false) (omega (arith, c.if-list-lt-HEADER_SIZE.false))
    (first_version _ c.if-version-ne-PLAIN.false)
