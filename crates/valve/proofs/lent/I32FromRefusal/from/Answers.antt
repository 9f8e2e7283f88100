use Rattle.valve.specs.FromC.{number_in_c}
use Rattle.valve.proofs.lent.I32FromRefusal.from.Goals as goal

pub returns-in-WrongSize : goal.returns-in-WrongSize
unfolding number_in_c
returns-in-WrongSize c = rw c.in-WrongSize.is

pub returns-in-NotFromArrivals : goal.returns-in-NotFromArrivals
unfolding number_in_c
returns-in-NotFromArrivals c = rw c.in-NotFromArrivals.is

pub returns-in-TooMuch : goal.returns-in-TooMuch
unfolding number_in_c
returns-in-TooMuch c = rw c.in-TooMuch.is
