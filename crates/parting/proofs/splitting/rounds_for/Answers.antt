use Rattle.parting.proofs.splitting.rounds_for.Goals as goal

pub returns-in-Neither : goal.returns-in-Neither
returns-in-Neither c = rw c.in-Neither.is c.none.ensures

pub returns-in-One : goal.returns-in-One
returns-in-One c = rw c.in-One.is c.rounds_one.ensures

pub returns-in-Both : goal.returns-in-Both
returns-in-Both c = rw c.in-Both.is c.rounds_both.ensures
