use Rattle.std.proofs.Common.{arith}
use Rattle.text.proofs.Decimal.{number_one, number_more}
use Rattle.text.proofs.writing.+put_number.Goals as goal

pub returns-then-n-lt10 : goal.returns-then-n-lt10
returns-then-n-lt10 t c = number_one _ _ _ _ c.if-n-lt10.true c.digit.ensures c.put_byte.ensures

pub returns : goal.returns
returns t c =
    number_more _ _ _ _ _ (omega (arith, c.if-n-lt10.false)) c.put_number-next.ensures c.digit-2.ensures c.put_byte-2.ensures
