use Rattle.list.proofs.HeaderLaws.{mark_short, mark_first, mark_second, mark_third}
use native.Mathlib.Omega.{arith}
use Rattle.list.proofs.records.has_mark.Goals as goal

pub returns-then-list-lt-MARK_SIZE : goal.returns-then-list-lt-MARK_SIZE
returns-then-list-lt-MARK_SIZE c = mark_short _ c.if-list-lt-MARK_SIZE.true

pub returns-then-list-ne80 : goal.returns-then-list-ne80
returns-then-list-ne80 c = mark_first _ (omega (arith, c.if-list-lt-MARK_SIZE.false)) c.if-list-ne80.true

pub returns-then-list-ne78 : goal.returns-then-list-ne78
returns-then-list-ne78 c =
    mark_second _ (omega (arith, c.if-list-lt-MARK_SIZE.false)) c.if-list-ne80.false c.if-list-ne78.true

pub returns : goal.returns
returns c =
    mark_third _ (omega (arith, c.if-list-lt-MARK_SIZE.false)) c.if-list-ne80.false c.if-list-ne78.false
